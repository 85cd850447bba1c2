-- The points that wait, as they lie in lent numbers. 640 words: six for each of 64 places (line, action, time in the action, duration, start, width), from 384
-- on the places, first those in use as they came, then the free ones, at 448 where the keys begin, and the keys in the order of their times. Four objects
-- for each place. Any numbers say some points.
use Rattle.std.specs.Prelude.{ℕ, zero, suc, ◌+◌, ◌*◌, ◌%◌, ◌≤◌, ◌<◌, Bool, cond, not, List, [], ◌∷◌, map, ◌≡◌, eqb, length, get_or, take}
use Rattle.plan_meaning.specs.Lists.{keep}
use Rattle.plan_meaning.specs.Plan.{time}
use Rattle.plan_meaning.specs.Stored.{point_in}
use Rattle.plan_meaning.specs.declared.Step.{Step}
use Rattle.plan_meaning.specs.declared.Slot.{Slot}
use Rattle.plan_ordering.specs.Order.{ordered}
use Rattle.plan_ordering.specs.Keys.{keys_in, Inside}
use Rattle.plan_waiting.specs.Waiting.{used, Timed, TimedStep}
use Rattle.plan_waiting.specs.declared.Queue.{Queue}

-- the time in its action: 3 is the end, as in the layer of happenings
abbrev pub when_in : Bool → ℕ
when_in ends = cond ends 3 1

module _ (words objects : List ℕ) where
  -- what lies at place p
  unfoldable pub slot_in : ℕ → Slot
  slot_in p =
      record {
        step = record {
          line = get_or words (6 * p) 0;
          start = get_or words (6 * p + 4) 0;
          duration = get_or words (6 * p + 3) 0;
          action = get_or words (6 * p + 1) 0;
          a = get_or objects (4 * p) 0;
          b = get_or objects (4 * p + 1) 0;
          c = get_or objects (4 * p + 2) 0;
          d = get_or objects (4 * p + 3) 0;
          width = get_or words (6 * p + 5) 0;
        };
        ends = eqb (get_or words (6 * p + 2) 0) 3;
      }

  -- any number names a place
  abbrev pub slot_at : ℕ → Slot
  slot_at p = slot_in (p % 64)

-- so many of the listed places, from number i on
unfoldable pub places_from : List ℕ → ℕ → ℕ → List ℕ
places_from words zero i = []
places_from words (suc k) i = get_or words (384 + i) 0 ∷ places_from words k (i + 1)

abbrev pub places_in : List ℕ → List ℕ
places_in words = places_from words 64 0

-- the points as they came, the first n in use
abbrev pub queue_in : List ℕ → List ℕ → ℕ → Queue
queue_in words objects n = record { slots = map (slot_at words objects) (places_in words); count = n }

-- ---- the keys

abbrev pub begin_in : List ℕ → ℕ
begin_in words = get_or words 448 0

module _ (slot : ℕ → Slot) where
  abbrev pub when_at : ℕ → ℕ
  when_at p = time (point_in (slot p))

  abbrev pub key_at : ℕ → ℕ
  key_at p = when_at p * 64 + p % 64

  -- the keys of places, in the order of their times
  abbrev pub keys_of : List ℕ → List ℕ
  keys_of ps = map key_at (ordered when_at ps)

abbrev pub place_of : ℕ → ℕ
place_of key = key % 64

-- the place of the point that came as number i
abbrev pub place_at : List ℕ → ℕ → ℕ
place_at words i = get_or words (384 + i) 0 % 64

-- no place is listed twice
abbrev pub Apart : List ℕ → Type 0
Apart words = (i j : ℕ) → i < 64 → j < 64 → place_at words i ≡ place_at words j → i ≡ j

-- n points wait, and their keys are in order
pub record Kept (words objects : List ℕ) (n : ℕ) : Type 0 where
  pub few : n ≤ 64
  pub wide : length objects ≡ 256
  pub inside : Inside words (begin_in words) n
  pub apart : Apart words
  pub holds : keys_in words (begin_in words) n ≡ keys_of (slot_at words objects) (take n (places_in words))

-- the first k keys are those of the points of time t, as they came
pub record Due (words objects : List ℕ) (n t k : ℕ) : Type 0 where
  pub is : map (slot_at words objects) (keys_in words (begin_in words) k) ≡ keep (λ s. eqb (time (point_in s)) t) (used (queue_in words objects n))

-- ---- what a function writes

-- s lies at place p then, and the rest is as it was
pub record Put (words objects words' objects' : List ℕ) (p : ℕ) (s : Slot) : Type 0 where
  pub there : slot_in words' objects' p ≡ s
  pub other : (j : ℕ) → (j ≡ p → ⊥) → slot_in words' objects' j ≡ slot_in words objects j
  pub behind : (k : ℕ) → 384 ≤ k → get_or words' k 0 ≡ get_or words k 0
  pub long : length words' ≡ 640
  pub wide : length objects' ≡ 256

-- number i of the first n + 1 listed places goes after the others, which close up
pub record Moved (words words' : List ℕ) (n i : ℕ) : Type 0 where
  pub inside : i ≤ n
  pub before : (a : ℕ) → a < i → get_or words' (384 + a) 0 ≡ get_or words (384 + a) 0
  pub after : (a : ℕ) → i ≤ a → a < n → get_or words' (384 + a) 0 ≡ get_or words (384 + (a + 1)) 0
  pub last : place_at words' n ≡ place_at words i

-- so does place p, if it is one of them
pub record TakenOut (words words' : List ℕ) (n p : ℕ) : Type 0 where
  pub below : (k : ℕ) → k < 384 → get_or words' k 0 ≡ get_or words k 0
  pub above : (k : ℕ) → 384 + n < k → get_or words' k 0 ≡ get_or words k 0
  pub long : length words' ≡ 640
  pub moved : (j : ℕ) → j ≤ n → place_at words j ≡ p → (i : ℕ) × (place_at words i ≡ p) × Moved words words' n i

-- the first k keys are those of the first n listed places that do not pass
abbrev pub Going : (ℕ → Bool) → List ℕ → ℕ → ℕ → ℕ → Type 0
Going f words begin n k = map place_of (keys_in words begin k) ≡ map place_of (keep (λ x. not (f x)) (take n (places_in words)))

-- those of the first n listed places that pass are the first r then, in order; what is not listed is as it was
pub record Sifted (f : ℕ → Bool) (words words' : List ℕ) (n r : ℕ) : Type 0 where
  pub fewer : r ≤ n
  pub done : take r (places_in words') ≡ keep f (take n (places_in words))
  pub below : (k : ℕ) → k < 384 → get_or words' k 0 ≡ get_or words k 0
  pub above : (k : ℕ) → 448 ≤ k → get_or words' k 0 ≡ get_or words k 0
  pub apart : Apart words'
  pub long : length words' ≡ 640

-- each of the r points that are left stands where it stood
pub record Left (words objects : List ℕ) (n : ℕ) (words' : List ℕ) (r : ℕ) : Type 0 where
  pub from : (i : ℕ) → i < r
      → (j : ℕ) × (j < n) × (place_at words' i ≡ place_at words j) × (slot_in words' objects (place_at words' i) ≡ slot_in words objects (place_at words j))

-- the first n points stand where they stood, and the others are the step's
pub record Entered (words objects : List ℕ) (n : ℕ) (words' objects' : List ℕ) (r : ℕ) (x : Step) : Type 0 where
  pub was : (i : ℕ) → i < n
      → (place_at words' i ≡ place_at words i) × (slot_in words' objects' (place_at words' i) ≡ slot_in words objects (place_at words i))
  pub new : (i : ℕ) → n ≤ i → i < r → (slot_in words' objects' (place_at words' i)).step ≡ x

-- ---- what a function asks

-- the arrays' lengths: a reference to an array does not tell them in a proof, and a store needs them
abbrev pub Sized : List ℕ → List ℕ → Type 0
Sized words objects = (length words ≡ 640) × (length objects ≡ 256)

-- what times need, whatever the objects
abbrev pub TimedWords : List ℕ → ℕ → Type 0
TimedWords words n = (objects : List ℕ) × Timed (queue_in words objects n)

abbrev pub TimedWord : List ℕ → ℕ → Type 0
TimedWord words p = (objects : List ℕ) × TimedStep (slot_in words objects p).step
