-- The laws. Bytes and tokens; readers and how they are put together; the readers of the grammar, in its order; sound readers, and that every refusal is
-- listed; the law of the lowest place; texts with the same tokens; and how far a refusal reaches in short texts.
pub mod Sight
pub mod Nearness
pub mod Local
pub mod Suffice
pub mod Heads
pub mod Rows
pub mod Closed
pub mod Trees
pub mod Parts
pub mod Sections
pub mod Domains
pub mod Numbers
pub mod Problems
pub mod Sound
pub mod SoundRows
pub mod SoundTrees
pub mod SoundParts
pub mod SoundTexts
pub mod Lowest
pub mod Alike
pub mod Examples
