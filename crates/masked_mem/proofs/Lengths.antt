-- No store and no range that fits changes the size of a memory.
use Rattle.std.proofs.Common.{◌≡◌, ℕ, ◌+◌, ◌-◌, ◌%◌, ◌<◌, ◌≤◌, List, ◌++◌, length, take, drop, replicate, ap, arith, length-append, length-take, length-drop}
use Rattle.std.proofs.lemmas.List.{length-replicate}
use Rattle.std.proofs.Math.ListN.{length-set}
use Rattle.std.specs.Int.{to_le_bytes, w16, w32}
use Rattle.masked_mem.specs.Memory.{IsSize, bytes_at, put_at, filled_at, copied_at, store1, store2, store4, half_place, word_place}

-- as many bytes put in the place of others
pub length-put_at : (memory : List ℕ) (at : ℕ) (bytes : List ℕ) → at + length bytes ≤ length memory → length (put_at memory at bytes) ≡ length memory
length-put_at memory at bytes fits = grind (arith, length-append {A = ℕ}, length-take {A = ℕ}, length-drop {A = ℕ})

pub length-filled_at : (memory : List ℕ) (at len v : ℕ) → at + len ≤ length memory → length (filled_at memory at len v) ≡ length memory
length-filled_at memory at len v fits = omega (arith, length-append (take at memory ++ replicate len v) (drop (at + len) memory), length-append (take at memory) (replicate len v), length-take at memory, length-replicate len v, length-drop (at + len) memory)

pub length-copied_at : (memory : List ℕ) (to from len : ℕ) → to + len ≤ length memory → from + len ≤ length memory → length (copied_at memory to from len) ≡ length memory
length-copied_at memory to from len fits_to fits_from = omega (arith, length-append (take to memory ++ bytes_at memory from len) (drop (to + len) memory), length-append (take to memory) (bytes_at memory from len), length-take to memory, length-take len (drop from memory), length-drop from memory, length-drop (to + len) memory)

pub length-store1 : (memory : List ℕ) (at v : ℕ) → length (store1 memory at v) ≡ length memory
length-store1 memory at v = simp length-set

pub length-store2 : (memory : List ℕ) (at v : ℕ) → IsSize (length memory) → length (store2 memory at v) ≡ length memory
length-store2 memory at v size =
    let place : half_place memory at + 2 ≤ length memory = omega (arith, size.low, size.words) in
    omega (arith, length-append (take (half_place memory at) memory ++ to_le_bytes w16 (v % 65536)) (drop (half_place memory at + 2) memory), length-append (take (half_place memory at) memory) (to_le_bytes w16 (v % 65536)), length-take (half_place memory at) memory, length-drop (half_place memory at + 2) memory)

pub length-store4 : (memory : List ℕ) (at v : ℕ) → IsSize (length memory) → length (store4 memory at v) ≡ length memory
length-store4 memory at v size =
    let place : word_place memory at + 4 ≤ length memory = omega (arith, size.low, size.words) in
    omega (arith, length-append (take (word_place memory at) memory ++ to_le_bytes w32 v) (drop (word_place memory at + 4) memory), length-append (take (word_place memory at) memory) (to_le_bytes w32 v), length-take (word_place memory at) memory, length-drop (word_place memory at + 4) memory)
