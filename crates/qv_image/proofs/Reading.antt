-- Reading an image step by step.
use Rattle.std.proofs.Common.{◌≡◌, ℕ, ◌+◌, ◌<◌, ◌≤◌, true, false, nat_lt, List, length, Result, Ok, Err, refl, sym, ap, subst, ◌∙◌, arith}
use Rattle.std.proofs.lemmas.Grind.{common_steps}
use Rattle.qv_ops.specs.declared.instr.Instr.{Instr}
use Rattle.qv_ops.specs.declared.decode.CodeFault.{CodeFault}
use Rattle.qv_ops.specs.declared.decode.CodeFault.TheVariants.{NoMemory as NoMemoryForCode}
use Rattle.qv_ops.specs.Cut.{cut_code, IsCut}
use Rattle.qv_image.specs.declared.fault.ImageFault.{ImageFault}
use Rattle.qv_image.specs.declared.fault.ImageFault.TheVariants.{HeaderShort, Code, NoMemory}
use Rattle.qv_image.specs.declared.header.Header.{Header}
use Rattle.qv_image.specs.declared.image.Image.{Image}
use Rattle.qv_image.specs.Fault.{image_fault}
use Rattle.qv_image.specs.Header.{header_of}
use Rattle.qv_image.specs.Image.{Qvm}
use Rattle.qv_image.specs.Read.{IsOfHeader, IsRead, behind, check_lengths, check_parts, part_of, read_bytes, read_parts, with_code}

-- a file with a header is read by it
read_bytes-long : (bytes : List ℕ) (h : Header) → 32 ≤ length bytes → h ≡ header_of bytes → read_bytes bytes ≡ read_parts bytes h
unfolding read_bytes
read_bytes-long bytes h le e =
    let t : nat_lt (length bytes) 32 ≡ false = grind (arith, common_steps) in
    rw t (ap (read_parts bytes) (sym e))

-- the code is cut where the header passes its tests
read_bytes-checked : (bytes : List ℕ) (h : Header) (u v : Unit {0}) → 32 ≤ length bytes → h ≡ header_of bytes → check_lengths h ≡ Ok u → check_parts (length bytes) h ≡ Ok v
    → read_bytes bytes ≡ with_code bytes h (cut_code h.count (part_of bytes h.code_offset h.code_len))
read_bytes-checked bytes h u v le e lengths parts =
    read_bytes-long bytes h le e
    ∙ ap (λ r. behind r (behind (check_parts (length bytes) h) (with_code bytes h (cut_code h.count (part_of bytes h.code_offset h.code_len))))) lengths
    ∙ ap (λ r. behind r (with_code bytes h (cut_code h.count (part_of bytes h.code_offset h.code_len)))) parts

read_bytes-lengths : (bytes : List ℕ) (h : Header) (fault : ImageFault) → 32 ≤ length bytes → h ≡ header_of bytes → check_lengths h ≡ Err fault → read_bytes bytes ≡ Err fault
read_bytes-lengths bytes h fault le e lengths =
    read_bytes-long bytes h le e
    ∙ ap (λ r. behind r (behind (check_parts (length bytes) h) (with_code bytes h (cut_code h.count (part_of bytes h.code_offset h.code_len))))) lengths

read_bytes-parts : (bytes : List ℕ) (h : Header) (u : Unit {0}) (fault : ImageFault) → 32 ≤ length bytes → h ≡ header_of bytes → check_lengths h ≡ Ok u → check_parts (length bytes) h ≡ Err fault
    → read_bytes bytes ≡ Err fault
read_bytes-parts bytes h u fault le e lengths parts =
    read_bytes-long bytes h le e
    ∙ ap (λ r. behind r (behind (check_parts (length bytes) h) (with_code bytes h (cut_code h.count (part_of bytes h.code_offset h.code_len))))) lengths
    ∙ ap (λ r. behind r (with_code bytes h (cut_code h.count (part_of bytes h.code_offset h.code_len)))) parts

-- a fault of the header is the answer
is_read-err : (read : Result Qvm ImageFault) (fault : ImageFault) → IsOfHeader fault → read ≡ Err fault → IsRead read (Err fault)
is_read-err read (Code fault) own e = absurd own
is_read-err read NoMemory own e = tt
is_read-err read (HeaderShort len) own e = e
is_read-err read fault own e = e

pub is_read-lengths : (bytes : List ℕ) (h : Header) (fault : ImageFault) (answer : Result Image ImageFault) → 32 ≤ length bytes → h ≡ header_of bytes → check_lengths h ≡ Err fault
    → IsOfHeader fault → answer ≡ Err fault → IsRead (read_bytes bytes) answer
is_read-lengths bytes h fault answer le e lengths own a =
    subst (λ r. IsRead (read_bytes bytes) r) (sym a) (is_read-err (read_bytes bytes) fault own (read_bytes-lengths bytes h fault le e lengths))

pub is_read-parts : (bytes : List ℕ) (h : Header) (u : Unit {0}) (fault : ImageFault) (answer : Result Image ImageFault) → 32 ≤ length bytes → h ≡ header_of bytes → check_lengths h ≡ Ok u
    → check_parts (length bytes) h ≡ Err fault → IsOfHeader fault → answer ≡ Err fault → IsRead (read_bytes bytes) answer
is_read-parts bytes h u fault answer le e lengths parts own a =
    subst (λ r. IsRead (read_bytes bytes) r) (sym a) (is_read-err (read_bytes bytes) fault own (read_bytes-parts bytes h u fault le e lengths parts))

-- a fault of the code is the answer
is_read-code_err : (bytes : List ℕ) (h : Header) (read : Result Qvm ImageFault) (cut : Result (List Instr) CodeFault) (fault : CodeFault)
    → read ≡ with_code bytes h cut → IsCut cut (Err fault) → IsRead read (Err (image_fault fault))
is_read-code_err bytes h read cut NoMemoryForCode e k = tt
is_read-code_err bytes h read cut fault e k = e ∙ ap (with_code bytes h) k

-- the code's part is cut where the header passes its tests
read_bytes-cut : (bytes : List ℕ) (h : Header) (u v : Unit {0}) (part : List ℕ) → 32 ≤ length bytes → h ≡ header_of bytes → check_lengths h ≡ Ok u → check_parts (length bytes) h ≡ Ok v
    → part ≡ part_of bytes h.code_offset h.code_len → read_bytes bytes ≡ with_code bytes h (cut_code h.count part)
read_bytes-cut bytes h u v part le e lengths parts p =
    read_bytes-checked bytes h u v le e lengths parts ∙ sym (ap (λ l. with_code bytes h (cut_code h.count l)) p)

pub is_read-code : (bytes : List ℕ) (h : Header) (u v : Unit {0}) (part : List ℕ) (fault : CodeFault) (answer : Result Image ImageFault) → 32 ≤ length bytes → h ≡ header_of bytes
    → check_lengths h ≡ Ok u → check_parts (length bytes) h ≡ Ok v → part ≡ part_of bytes h.code_offset h.code_len → IsCut (cut_code h.count part) (Err fault) → answer ≡ Err (image_fault fault)
    → IsRead (read_bytes bytes) answer
is_read-code bytes h u v part fault answer le e lengths parts p k a =
    subst (λ r. IsRead (read_bytes bytes) r) (sym a)
    (is_read-code_err bytes h (read_bytes bytes) (cut_code h.count part) fault (read_bytes-cut bytes h u v part le e lengths parts p) k)

-- the image of the code and of the parts
pub read_all : (bytes : List ℕ) (h : Header) (u v : Unit {0}) (part : List ℕ) (code : List Instr) (data_part lit : List ℕ) → 32 ≤ length bytes → h ≡ header_of bytes
    → check_lengths h ≡ Ok u → check_parts (length bytes) h ≡ Ok v → part ≡ part_of bytes h.code_offset h.code_len → cut_code h.count part ≡ Ok code
    → data_part ≡ part_of bytes h.data_offset h.data_len → lit ≡ part_of bytes (h.data_offset + h.data_len) h.lit_len
    → read_bytes bytes ≡ Ok (record { code = code; data_part = data_part; lit = lit; bss = h.bss_len })
read_all bytes h u v part code data_part lit le e lengths parts p k d l =
    rw (d, l) (read_bytes-cut bytes h u v part le e lengths parts p ∙ ap (with_code bytes h) k)

-- a file without a header
pub read_bytes-short : (bytes : List ℕ) → length bytes < 32 → read_bytes bytes ≡ Err (HeaderShort (length bytes))
unfolding read_bytes
read_bytes-short bytes lt = let t : nat_lt (length bytes) 32 ≡ true = grind (arith, common_steps) in rw t refl
