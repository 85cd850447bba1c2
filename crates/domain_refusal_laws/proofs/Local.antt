-- Readers that depend on nothing after what they reach: how such readers are put together. A text and an edge are given (Edge); another text
-- has the same tokens up to the edge (Agrees). Either both are read to the same, or the first is read on, or refused, after the edge. Assumes nothing.
use mathlib.Core.Path.{◌≡◌, refl}
use mathlib.Core.List.{List}
use mathlib.Core.Bool.{Bool, true, false, cond}
use Prim.Native.Nat.{ℕ, ◌+◌, ◌≤◌, ◌<◌}
use native.Mathlib.Nat.{le_refl}
use native.Mathlib.Omega.{arith}
use native.Mathlib.Decide.{dec_le}
use lib.ListN.{length, get_or, take}
use lib.IntN.{ℤ}
use Rattle.text_words.specs.Bytes.{bytes}
use Rattle.text_tokens.specs.Runs.{part}
use Rattle.text_tokens.specs.Tokens.{token_at}
use Rattle.text_tokens.specs.declared.tokens.Word.{Word}
use Rattle.text_tokens.specs.declared.tokens.Token.{Token}
use Rattle.text_tokens.specs.declared.tokens.Token.TheVariants as T
use Rattle.domain_meaning.specs.Read.{◌>>=◌, and_then, Read, Reader, got, refused, give, refuse}
use Rattle.domain_meaning.specs.Due.{token, peek, wrong, number_of, after_of, place_of, on_word, on_number, on_open, on_close, on_refusal}
use Rattle.domain_refusal_laws.specs.Lowest.{seen, next_of}
use Rattle.domain_refusal_laws.specs.Alike.{SameAt}
use Rattle.domain_refusal_laws.proofs.Sight.{part_near, byte_near, seen_low, seen_later}
use Rattle.domain_refusal_laws.proofs.Nearness.{Fits, token_fits, token_ends, next_on, token_same, either_wordly, duration_wordly, spot_same}

-- a text, how much of it is the same in others, and how far it is looked at for a refusal k at p
pub record Edge : Type 0 where
  pub text : List ℕ
  pub edge : ℕ
  pub reaches : ℕ → ℕ → ℕ
  pub above : (k p : ℕ) → seen text p ≤ reaches k p
  pub bracket : (p : ℕ) → get_or text p 0 ≡ 40 → seen text (next_of text (p + 1)) ≤ reaches 3 p

-- the place of the next token
abbrev pub next : Edge → ℕ → ℕ
next E at = next_of E.text at

-- the tokens that are wholly seen before the edge are the same in another text
pub record Agrees (E : Edge) (u : List ℕ) : Type 0 where
  pub same : (at : ℕ) → seen E.text (next E at) ≤ E.edge → SameAt E.text u at

pub same_self : (s : List ℕ) (at : ℕ) → SameAt s s at
same_self s at = record { token = refl; whole = refl; tail = refl; first = refl; either = refl; duration = refl }

pub agrees_self : (E : Edge) → Agrees E E.text
agrees_self E = record { same = λ at i. same_self E.text at }

-- one with the same bytes has the same tokens
pub agrees_bytes : (E : Edge) (u : List ℕ) → take E.edge E.text ≡ take E.edge u → Agrees E u
agrees_bytes E u a = record { same = here }
  where
    s : List ℕ
    s = E.text

    here : (at : ℕ) → seen s (next E at) ≤ E.edge → SameAt s u at
    here at i =
        let e : after_of (token_at s at) ≤ E.edge = omega (arith, token_ends s (token_at s at) (token_fits s at)) in
        record {
          token = token_same s u E.edge a at i;
          whole = part_near s u E.edge a (next E at) (after_of (token_at s at)) e;
          tail = part_near s u E.edge a (next E at + 1) (after_of (token_at s at)) e;
          first = byte_near s u E.edge a (next E at) (omega (arith, seen_low s (next E at)));
          either = spot_same s u E.edge a (bytes "either") either_wordly at i;
          duration = spot_same s u E.edge a (bytes "?duration") duration_wordly at i;
        }

-- what was read goes on after the edge: at a place of which fl says what comes next
pub record Over (E : Edge) (fl : ℕ → ℕ) (n : ℕ) : Type 0 where
  pub past : E.edge < seen E.text (fl n)

-- read on, or refused, after the edge. (0 is no refusal's number: steps that ran out)
unfoldable pub Far : {A : Type 0} → Edge → (ℕ → Type 0) → Read A → Type 0
Far E F (got a n) = F n
Far E F (refused k p) = 0 < k → E.edge < E.reaches k p

-- x is read in the text, y in another. Nothing before f was looked at
pub data Good {A : Type 0} (E : Edge) (f : ℕ) (F : ℕ → Type 0) (x y : Read A) : Type 0 where
  far : Far E F x → Good E f F x y
  near : seen E.text f ≤ E.edge → x ≡ y → Good E f F x y

-- ---- one by one

module _ {A : Type 0} {E : Edge} {F : ℕ → Type 0} where
  pub beyond : {f : ℕ} (x y : Read A) → E.edge < seen E.text f → Good E f F x y → Far E F x
  beyond x y h (far z) = z
  beyond x y h (near i e) = absurd (let o : ⊥ = omega arith in o)

  pub lower : (p f : ℕ) (x y : Read A) → p ≤ f → Good E f F x y → Good E p F x y
  lower p f x y h (far z) = far z
  lower p f x y h (near i e) = near (omega (arith, seen_later E.text p f h)) e

  pub widen : {G : ℕ → Type 0} (f : ℕ) (x y : Read A) → ((n : ℕ) → F n → G n) → Good E f F x y → Good E f G x y
  unfolding Far
  widen f (got a n) y h (far z) = far (h n z)
  widen f (refused k p) y h (far z) = far z
  widen f x y h (near i e) = near i e

  -- by whether the place f is wholly seen
  pub settle : (f : ℕ) (x y : Read A) → (seen E.text f ≤ E.edge → x ≡ y) → (E.edge < seen E.text f → Far E F x) → Good E f F x y
  settle f x y h k = go (dec_le (seen E.text f) E.edge)
    where
      go : Dec (seen E.text f ≤ E.edge) → Good E f F x y
      go (yes i) = near i (h i)
      go (no i) = far (k (omega arith))

  pub refusal : (f k p : ℕ) → f ≤ p → Good {A = A} E f F (refused k p) (refused k p)
  unfolding Far
  refusal f k p h = settle f (refused k p) (refused k p) (λ i. refl) (λ i _. omega (arith, seen_later E.text f p h, E.above k p))

pub bind : {A B : Type 0} {E : Edge} {fl : ℕ → ℕ} {F : ℕ → Type 0} (f : ℕ) (x y : Read A) (g h : A → Reader B) → Good E f (Over E fl) x y
    → ((a : A) (n : ℕ) → Good E (fl n) F (g a n) (h a n)) → Good E f F (and_then x g) (and_then y h)
unfolding Far
bind f (got a n) y g h (far z) k = far (beyond (g a n) (h a n) z.past (k a n))
bind f (refused k p) y g h (far z) c = far z
bind {A = A} {B = B} {E = E} {F = F} f x y g h (near i e) k = rw (← e) (go x)
  where
    on : (a b : Read B) {m : ℕ} → Good E m F a b → Good E f F a b
    on a b (far z) = far z
    on a b (near j d) = near i d

    go : (x : Read A) → Good E f F (and_then x g) (and_then x h)
    go (got a n) = on (g a n) (h a n) (k a n)
    go (refused k p) = near i refl

-- ---- readers, as functions of the text

-- from any place on; fl says of a place where the first thing is that is looked at
pub record Local {A : Type 0} (E : Edge) (fl : ℕ → ℕ) (F : ℕ → Type 0) (m : List ℕ → Reader A) : Type 0 where
  pub good : (u : List ℕ) → Agrees E u → (at : ℕ) → Good E (fl at) F (m E.text at) (m u at)

-- one that goes from token to token
abbrev pub Plain : {A : Type 0} (E : Edge) (m : List ℕ → Reader A) → Type 0
Plain E m = Local E (next E) (Over E (next E)) m

pub gives : {A : Type 0} {E : Edge} {fl : ℕ → ℕ} {a : A} → Local E fl (Over E fl) (λ v. give a)
unfolding Far
gives {fl = fl} {a = a} = record { good = λ u g at. settle (fl at) (got a at) (got a at) (λ i. refl) (λ i. record { past = i }) }

-- steps that are more than the text's bytes suffice
abbrev pub Steady : {A : Type 0} → (ℕ → List ℕ → Reader A) → Type 0
Steady m = (s : List ℕ) (at j k : ℕ) → length s < j → length s < k → m j s at ≡ m k s at

module _ {A : Type 0} {E : Edge} {fl : ℕ → ℕ} {F : ℕ → Type 0} where
  pub never : Local {A = A} E fl F (λ v. refuse 0 0)
  unfolding Far
  never = record { good = λ u g at. far (λ h. absurd (let o : ⊥ = omega arith in o)) }

  pub then : {B : Type 0} {by : ℕ → ℕ} {m : List ℕ → Reader B} {g : List ℕ → B → Reader A} → Local E fl (Over E by) m → ((b : B) → Local E by F (λ v. g v b))
      → Local E fl F (λ v. ◌>>=◌ (m v) (g v))
  then {m = m} {g = g} h k =
      record { good = λ u a at. bind (fl at) (m E.text at) (m u at) (g E.text) (g u) (h.good u a at) (λ b n. (k b).good u a n) }

  pub assoc : {B C : Type 0} (m : List ℕ → Reader B) (h : List ℕ → B → Reader C) (g : List ℕ → C → Reader A)
      → Local E fl F (λ v. ◌>>=◌ (m v) (λ b. ◌>>=◌ (h v b) (g v))) → Local E fl F (λ v. ◌>>=◌ (◌>>=◌ (m v) (h v)) (g v))
  assoc {B = B} {C = C} m h g k =
      record { good = λ u a at. rw (flat (m E.text at) (h E.text) (g E.text), flat (m u at) (h u) (g u)) (k.good u a at) }
    where
      flat : (x : Read B) (h : B → Reader C) (g : C → Reader A) → and_then (and_then x h) g ≡ and_then x (λ b n. and_then (h b n) g)
      flat (got b n) h g = refl
      flat (refused k p) h g = refl

  pub either_way : {m o : List ℕ → Reader A} (b : Bool) → Local E fl F m → Local E fl F o → Local E fl F (λ v. cond b (m v) (o v))
  either_way true h k = h
  either_way false h k = k

  -- as many steps as the text has bytes, and one: more than suffice
  pub bounded : (m : ℕ → List ℕ → Reader A) → Steady m → ((k : ℕ) → Local E fl F (m k)) → Local E fl F (λ v. m (length v + 1) v)
  bounded m f h = record { good = λ u a at. go u a at (length E.text + length u + 1) (omega arith) (omega arith) }
    where
      go : (u : List ℕ) → Agrees E u → (at k : ℕ) → length E.text < k → length u < k
          → Good E (fl at) F (m (length E.text + 1) E.text at) (m (length u + 1) u at)
      go u a at k i j = rw (f E.text at (length E.text + 1) k (omega arith) i, f u at (length u + 1) k (omega arith) j) ((h k).good u a at)

-- ---- after a token

-- what is known of a token of the text: of its bytes in the other text, where it ends, and that place n is at or after it
pub record Told (E : Edge) (u : List ℕ) (t : Token) (n : ℕ) : Type 0 where
  pub agrees : Agrees E u
  pub whole : part E.text (place_of t) (after_of t) ≡ part u (place_of t) (after_of t)
  pub tail : part E.text (place_of t + 1) (after_of t) ≡ part u (place_of t + 1) (after_of t)
  pub first : get_or E.text (place_of t) 0 ≡ get_or u (place_of t) 0
  pub fits : Fits E.text t
  pub on : place_of t ≤ next E n

pub record Behind {A : Type 0} (E : Edge) (t : Token) (n : ℕ) (F : ℕ → Type 0) (m : List ℕ → Reader A) : Type 0 where
  pub good : (u : List ℕ) → Told E u t n → Good E (place_of t) F (m E.text n) (m u n)

module _ {A : Type 0} {E : Edge} {F : ℕ → Type 0} where
  pub look : (u : List ℕ) → Agrees E u → (at : ℕ) (by : Token → ℕ) → next E at ≤ next E (by (token_at E.text at)) → (g : List ℕ → Token → Reader A)
      → ((t : Token) → token_at E.text at ≡ t → Behind E t (by t) F (λ v. g v t))
      → Good E (next E at) F (g E.text (token_at E.text at) (by (token_at E.text at))) (g u (token_at u at) (by (token_at u at)))
  look u a at by h g k = go (dec_le (seen s (next E at)) E.edge)
    where
      s : List ℕ
      s = E.text

      t : Token
      t = token_at s at

      self : Told E s t (by t)
      self = record { agrees = agrees_self E; whole = refl; tail = refl; first = refl; fits = token_fits s at; on = h }

      other : seen s (next E at) ≤ E.edge → Told E u t (by t)
      other i =
          let m = a.same at i in
          record { agrees = a; whole = m.whole; tail = m.tail; first = m.first; fits = token_fits s at; on = h }

      go : Dec (seen s (next E at) ≤ E.edge) → Good E (next E at) F (g s t (by t)) (g u (token_at u at) (by (token_at u at)))
      go (yes i) = rw (← (a.same at i).token) ((k t refl).good u (other i))
      go (no i) = far (beyond {f = next E at} (g s t (by t)) (g s t (by t)) (omega arith) ((k t refl).good s self))

  pub token_then : {g : List ℕ → Token → Reader A} → ((t : Token) → Behind E t (after_of t) F (λ v. g v t)) → Local E (next E) F (λ v. ◌>>=◌ (token v) (g v))
  token_then {g} k =
      record { good = λ u a at. look u a at after_of (next_on E.text at _ (token_ends E.text _ (token_fits E.text at)).0) g (λ t e. k t) }

  pub peek_then : {g : List ℕ → Token → Reader A} → ((n : ℕ) (t : Token) → Behind E t n F (λ v. g v t)) → Local E (next E) F (λ v. ◌>>=◌ (peek v) (g v))
  peek_then {g} k = record { good = λ u a at. look u a at (λ t. at) (le_refl (next E at)) g (λ t e. k at t) }

module _ {A : Type 0} {E : Edge} {F : ℕ → Type 0} {t : Token} {n : ℕ} where
  -- reading on
  pub after : {m : List ℕ → Reader A} → Local E (next E) F m → Behind E t n F m
  after {m} h = record { good = λ u k. lower (place_of t) (next E n) (m E.text n) (m u n) k.on (h.good u k.agrees n) }

  pub follow : {B : Type 0} {by : ℕ → ℕ} {m : List ℕ → Reader B} {g : List ℕ → B → Reader A} → Behind E t n (Over E by) m
      → ((b : B) → Local E by F (λ v. g v b))
      → Behind E t n F (λ v. ◌>>=◌ (m v) (g v))
  follow {m = m} {g = g} h k =
      record { good = λ u r. bind (place_of t) (m E.text n) (m u n) (g E.text) (g u) (h.good u r) (λ b i. (k b).good u r.agrees i) }

  -- a refusal of the token
  pub refuses : {k : ℕ} → Behind {A = A} E t n F (λ v. refuse k (place_of t))
  refuses {k} = record { good = λ u h. refusal (place_of t) k (place_of t) (le_refl (place_of t)) }

  pub wrongs : (d : ℕ) → Behind {A = A} E t n F (λ v. wrong d t)
  wrongs d = refuses {k = number_of d t}

  pub choose : {m o : List ℕ → Reader A} (b : Bool) → Behind E t n F m → Behind E t n F o → Behind E t n F (λ v. cond b (m v) (o v))
  choose true h k = h
  choose false h k = k

  pub choose_then : {B : Type 0} (m o : List ℕ → Reader B) (g : List ℕ → B → Reader A) (b : Bool) → Behind E t n F (λ v. ◌>>=◌ (m v) (g v))
      → Behind E t n F (λ v. ◌>>=◌ (o v) (g v))
      → Behind E t n F (λ v. ◌>>=◌ (cond b (m v) (o v)) (g v))
  choose_then m o g true h k = h
  choose_then m o g false h k = k

-- nothing is read: the token is refused, or reading goes on where it stands
pub data Held {A : Type 0} (p : ℕ) (n : ℕ) (x : Read A) : Type 0 where
  stays : (a : A) → x ≡ got a n → Held p n x
  stops : (k : ℕ) → x ≡ refused k p → Held p n x

module _ {A : Type 0} {E : Edge} {t : Token} {n : ℕ} where
  pub gives_behind : {a : A} → Behind E t n (Over E (next E)) (λ v. give a)
  gives_behind = after gives

  pub held : {B : Type 0} {F : ℕ → Type 0} (m : Reader B) {g : List ℕ → B → Reader A} → ((n : ℕ) → Held (place_of t) n (m n))
      → ((b : B) → Behind E t n F (λ v. g v b))
      → Behind E t n F (λ v. ◌>>=◌ m (g v))
  held {B = B} {F = F} m {g} h k = record { good = λ u r. go u r (h n) }
    where
      go : (u : List ℕ) → Told E u t n → Held (place_of t) n (m n) → Good E (place_of t) F (and_then (m n) (g E.text)) (and_then (m n) (g u))
      go u r (stays b e) = rw e ((k b).good u r)
      go u r (stops k e) = rw e (refusal (place_of t) k (place_of t) (le_refl (place_of t)))

  pub held_last : (m : Reader A) → ((n : ℕ) → Held (place_of t) n (m n)) → Behind E t n (Over E (next E)) (λ v. m)
  held_last m h = record { good = λ u r. go u r (h n) }
    where
      go : (u : List ℕ) → Told E u t n → Held (place_of t) n (m n) → Good E (place_of t) (Over E (next E)) (m n) (m n)
      go u r (stays b e) = rw e (gives_behind.good u r)
      go u r (stops k e) = rw e (refusal (place_of t) k (place_of t) (le_refl (place_of t)))

-- ---- by what the token is; the bytes of a word are the same

module _ {A : Type 0} {E : Edge} {F : ℕ → Type 0} where
  module _ {k : Word} {p e n : ℕ} (h : List ℕ → List ℕ → Reader A) where
    pub worded : ((w : List ℕ) → Behind E (T.Word k p e) n F (λ v. h v w)) → Behind E (T.Word k p e) n F (λ v. h v (part v p e))
    worded f = record { good = λ u r. rw (← r.whole) ((f (part E.text p e)).good u r) }

    pub tailed : ((w : List ℕ) → Behind E (T.Word k p e) n F (λ v. h v w)) → Behind E (T.Word k p e) n F (λ v. h v (part v (p + 1) e))
    tailed f = record { good = λ u r. rw (← r.tail) ((f (part E.text (p + 1) e)).good u r) }

  -- so is the first byte of what is refused
  pub begun : {k p n : ℕ} (h : List ℕ → ℕ → Reader A) → ((b : ℕ) → Behind E (T.Refusal k p) n F (λ v. h v b))
      → Behind E (T.Refusal k p) n F (λ v. h v (get_or v p 0))
  begun {p = p} h f = record { good = λ u r. rw (← r.first) ((f (get_or E.text p 0)).good u r) }

  module _ {by : Token → ℕ} {o : List ℕ → Token → Reader A} where
    pub on_word_lem : {h : List ℕ → Word → ℕ → ℕ → Reader A} → ((k : Word) (p e : ℕ) → Behind E (T.Word k p e) (by (T.Word k p e)) F (λ v. h v k p e))
        → ((t : Token) → Behind E t (by t) F (λ v. o v t)) → (t : Token) → Behind E t (by t) F (λ v. on_word t (h v) (o v t))
    on_word_lem f g (T.Word k p e) = f k p e
    on_word_lem f g (T.Number z p e) = g (T.Number z p e)
    on_word_lem f g (T.Open p n) = g (T.Open p n)
    on_word_lem f g (T.Close p n) = g (T.Close p n)
    on_word_lem f g (T.Mark m p n) = g (T.Mark m p n)
    on_word_lem f g (T.Refusal k p) = g (T.Refusal k p)
    on_word_lem f g (T.End p) = g (T.End p)

    pub on_number_lem : {h : List ℕ → ℤ → ℕ → Reader A} → ((z : ℤ) (p e : ℕ) → Behind E (T.Number z p e) (by (T.Number z p e)) F (λ v. h v z p))
        → ((t : Token) → Behind E t (by t) F (λ v. o v t)) → (t : Token) → Behind E t (by t) F (λ v. on_number t (h v) (o v t))
    on_number_lem f g (T.Word k p e) = g (T.Word k p e)
    on_number_lem f g (T.Number z p e) = f z p e
    on_number_lem f g (T.Open p n) = g (T.Open p n)
    on_number_lem f g (T.Close p n) = g (T.Close p n)
    on_number_lem f g (T.Mark m p n) = g (T.Mark m p n)
    on_number_lem f g (T.Refusal k p) = g (T.Refusal k p)
    on_number_lem f g (T.End p) = g (T.End p)

    pub on_open_lem : {h : List ℕ → ℕ → Reader A} → ((p n : ℕ) → Behind E (T.Open p n) (by (T.Open p n)) F (λ v. h v p))
        → ((t : Token) → Behind E t (by t) F (λ v. o v t)) → (t : Token) → Behind E t (by t) F (λ v. on_open t (h v) (o v t))
    on_open_lem f g (T.Word k p e) = g (T.Word k p e)
    on_open_lem f g (T.Number z p e) = g (T.Number z p e)
    on_open_lem f g (T.Open p n) = f p n
    on_open_lem f g (T.Close p n) = g (T.Close p n)
    on_open_lem f g (T.Mark m p n) = g (T.Mark m p n)
    on_open_lem f g (T.Refusal k p) = g (T.Refusal k p)
    on_open_lem f g (T.End p) = g (T.End p)

    pub on_close_lem : {h : List ℕ → ℕ → Reader A} → ((p n : ℕ) → Behind E (T.Close p n) (by (T.Close p n)) F (λ v. h v p))
        → ((t : Token) → Behind E t (by t) F (λ v. o v t)) → (t : Token) → Behind E t (by t) F (λ v. on_close t (h v) (o v t))
    on_close_lem f g (T.Word k p e) = g (T.Word k p e)
    on_close_lem f g (T.Number z p e) = g (T.Number z p e)
    on_close_lem f g (T.Open p n) = g (T.Open p n)
    on_close_lem f g (T.Close p n) = f p n
    on_close_lem f g (T.Mark m p n) = g (T.Mark m p n)
    on_close_lem f g (T.Refusal k p) = g (T.Refusal k p)
    on_close_lem f g (T.End p) = g (T.End p)

    pub on_refusal_lem : {h : List ℕ → ℕ → ℕ → Reader A} → ((k p : ℕ) → Behind E (T.Refusal k p) (by (T.Refusal k p)) F (λ v. h v k p))
        → ((t : Token) → Behind E t (by t) F (λ v. o v t)) → (t : Token) → Behind E t (by t) F (λ v. on_refusal t (h v) (o v t))
    on_refusal_lem f g (T.Word k p e) = g (T.Word k p e)
    on_refusal_lem f g (T.Number z p e) = g (T.Number z p e)
    on_refusal_lem f g (T.Open p n) = g (T.Open p n)
    on_refusal_lem f g (T.Close p n) = g (T.Close p n)
    on_refusal_lem f g (T.Mark m p n) = g (T.Mark m p n)
    on_refusal_lem f g (T.Refusal k p) = f k p
    on_refusal_lem f g (T.End p) = g (T.End p)
