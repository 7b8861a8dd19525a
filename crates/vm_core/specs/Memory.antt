-- The memory of a module: the size of its block, and its entry frame.
use Rattle.std.specs.Prelude.{ℕ, zero, suc, ◌-◌, ◌*◌, ◌^◌, List, ◌∷◌, ◌++◌, length, take, flat_map, nat_le, if◌then◌else◌}
use Rattle.qv_ops.specs.Code.{word_bytes}

-- the least doubling of size that is at least need, within some doublings
unfoldable pub doubled : ℕ → ℕ → ℕ → ℕ
doubled zero size need = size
doubled (suc k) size need = if nat_le need size then size else doubled k (2 * size) need

-- the size of a block: the least power of two that is at least 64 and at least need, which is at most
-- 2 ^ 26
unfoldable pub block_size : ℕ → ℕ
block_size need = doubled 20 64 need

-- the words of the entry frame: the return place -1, then 0, then the arguments
abbrev pub frame_words : List ℕ → List ℕ
frame_words args = (2 ^ 32 - 1) ∷ 0 ∷ args

-- the memory with the entry frame in its last 64 bytes
abbrev pub with_frame : List ℕ → List ℕ → List ℕ
with_frame memory args = take (length memory - 64) memory ++ flat_map word_bytes (frame_words args)
