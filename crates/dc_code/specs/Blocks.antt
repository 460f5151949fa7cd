-- Words in the frame and in blocks.
use Rattle.std.specs.Prelude.{ℕ, zero, suc, ◌+◌, ◌*◌, ◌&&◌, ◌==◌, Bool, false, nat_lt, nat_le, List, [], ◌∷◌, ◌++◌, Option, Some, None, length, take, drop, slice_get, slice_index, if◌then◌else◌}
use Rattle.dc_code.specs.State.{Machine}
use Rattle.dc_code.specs.declared.run.Block.{Block}

-- ---- the frame

-- the word of a slot, and those of n slots from one on
abbrev pub word_in : Machine → ℕ → ℕ
word_in m s = slice_index m.words (m.base + s)

abbrev pub words_in : Machine → ℕ → ℕ → List ℕ
words_in m s n = take n (drop (m.base + s) m.words)

-- other words in the place of those from i on
abbrev pub put : List ℕ → ℕ → List ℕ → List ℕ
put words i ws = take i words ++ (ws ++ drop (i + length ws) words)

-- ---- blocks

-- what is there, if it is, goes on
abbrev pub if_there : {A B : Type 0} → Option A → (A → Option B) → Option B
if_there None go = None
if_there (Some a) go = go a

abbrev pub words_of_block : Option Block → Option (List ℕ)
words_of_block None = None
words_of_block (Some b) = Some b.words

-- the words of a block by its number; block 0 is the frame stack
abbrev pub block_words : Machine → ℕ → Option (List ℕ)
block_words m zero = Some m.words
block_words m (suc b) = words_of_block (slice_get m.blocks b)

-- the n words from `start` on, where there are so many
abbrev pub piece : ℕ → ℕ → List ℕ → Option (List ℕ)
piece start n words = if nat_le (start + n) (length words) then Some (take n (drop start words)) else None

-- the n words of a block from `start` on, where it has them; no words are always there
abbrev pub words_at : Machine → ℕ → ℕ → ℕ → Option (List ℕ)
words_at m block start n = if n == 0 then Some [] else if_there (block_words m block) (piece start n)

-- the words of the slice in the slots from v on, whose elements have c cells
abbrev pub slice_words : Machine → ℕ → ℕ → Option (List ℕ)
slice_words m v c = words_at m (word_in m v) (word_in m (v + 1)) (word_in m (v + 2) * c)

abbrev pub ends_at : Option Block → ℕ → Bool
ends_at None end = false
ends_at (Some b) end = b.growable && (length b.words == end)

-- whether a block may grow in place behind a slice that ends there
abbrev pub grows : Machine → ℕ → ℕ → Bool
grows m zero end = false
grows m (suc b) end = ends_at (slice_get m.blocks b) end

-- whether two ranges of n words share one
abbrev pub overlaps : ℕ → ℕ → ℕ → ℕ → ℕ → Bool
overlaps block start other_block other_start n = (block == other_block) && (nat_lt start (other_start + n) && nat_lt other_start (start + n))

-- the words n times
abbrev pub repeated : ℕ → List ℕ → List ℕ
repeated zero ws = []
repeated (suc n) ws = ws ++ repeated n ws

-- ---- changes of a block

abbrev pub changed : (Block → Block) → ℕ → List Block → List Block
changed f n [] = []
changed f zero (b ∷ bs) = f b ∷ bs
changed f (suc n) (b ∷ bs) = b ∷ changed f n bs

abbrev pub written : ℕ → List ℕ → Block → Block
written start ws b = record { words = put b.words start ws; growable = b.growable }

abbrev pub lengthened : List ℕ → Block → Block
lengthened ws b = record { words = b.words ++ ws; growable = b.growable }
