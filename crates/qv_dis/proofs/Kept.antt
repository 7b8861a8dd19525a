-- Sizes stay within the limit, and an image that linking gave stays as it is.
use Rattle.std.proofs.Common.{◌≡◌, ℕ, suc, ◌*◌, ◌%◌, ◌^◌, ◌≤◌, List, ◌++◌, length, drop, Option, Some, None, Ok, sym, ap, ◌∙◌, subst, arith}
use Rattle.std.specs.Prelude.{flat_map, replicate}
use Rattle.std.proofs.lemmas.List.{length-drop}
use Rattle.qv_ops.specs.declared.instr.Instr.{Instr}
use Rattle.qv_ops.specs.Code.{word_bytes}
use Rattle.qv_image.specs.Image.{Qvm, IsImage}
use Rattle.asm_line.specs.declared.line.AsmSegment.TheVariants.{Data, Lit}
use Rattle.asm_link.specs.declared.fault.AsmFault.{AsmFault}
use Rattle.asm_link.specs.Definitions.{state_after}
use Rattle.asm_link.specs.Image.{bss_length, bytes_at, code_at, image_of, padded}
use Rattle.asm_link.specs.Link.{block_size, fault_in, unless_fault}
use Rattle.asm_link.specs.Source.{SourceLine, source_of}
use Rattle.asm_link.specs.State.{Before, start}
use Rattle.asm_link.specs.Visits.{visits}
use Rattle.asm_link.proofs.Comes.{image_with}
use Rattle.qv_dis.specs.Back.{LeavesRoom, IsLinked}
use Rattle.qv_dis.proofs.Rows.{behind, words_of_data}
use Rattle.qv_dis.proofs.Sizes.{are_bytes, words_back, length-whole_words, length-words, length-padded, padded-whole}

-- what the text of an image is linked to: sizes are rounded up, and a stack is there
abbrev pub image_back : Qvm → Qvm
image_back z = image_with z.code (flat_map word_bytes (words_of_data z)) z.lit (behind z)

-- its block is within the limit
abbrev pub FitsBack : Qvm → Type 0
FitsBack z = block_size (behind z) ≤ 2 ^ 26

pub room_fits : (z : Qvm) → LeavesRoom z → FitsBack z
room_fits z room = omega (arith, length-whole_words (drop 4 z.data_part), length-drop 4 z.data_part)

-- the data that linking gives, behind the first word
abbrev later_data : List ℕ → List ℕ
later_data data_bytes = drop 4 (padded (replicate 4 0 ++ data_bytes))

later_whole : (data_bytes : List ℕ) → length (later_data data_bytes) % 4 ≡ 0
later_whole data_bytes = omega (arith, length-padded (replicate 4 0 ++ data_bytes))

later_back : (code : List Instr) (data_bytes lit_bytes : List ℕ) (last : Before) → IsImage (image_with code data_bytes lit_bytes last)
    → flat_map word_bytes (words_of_data (image_with code data_bytes lit_bytes last)) ≡ later_data data_bytes
later_back code data_bytes lit_bytes last image =
    words_back (later_data data_bytes) (λ i. are_bytes (padded (replicate 4 0 ++ data_bytes)) image.data_bytes (suc (suc (suc (suc i))))) (later_whole data_bytes)

-- it is the image that its own text is linked to
pub record Stays (z : Qvm) : Type 0 where
  pub is : image_back z ≡ z
  pub fits : FitsBack z

given_stays : (code : List Instr) (data_bytes lit_bytes : List ℕ) (last : Before) → IsImage (image_with code data_bytes lit_bytes last) → Stays (image_with code data_bytes lit_bytes last)
given_stays code data_bytes lit_bytes last image =
    let z : Qvm = image_with code data_bytes lit_bytes last in
    let back = later_back code data_bytes lit_bytes last image in
    let data_is : padded (replicate 4 0 ++ flat_map word_bytes (words_of_data z)) ≡ z.data_part =
    ap (λ ds. padded (replicate 4 0 ++ ds)) back ∙ padded-whole (padded (replicate 4 0 ++ data_bytes)) (length-padded (replicate 4 0 ++ data_bytes)) in
    let lit_is : padded z.lit ≡ z.lit = padded-whole (padded lit_bytes) (length-padded lit_bytes) in
    let bss_is : bss_length (behind z) ≡ z.bss = omega arith in
    let words : 4 * length (words_of_data z) ≡ length (later_data data_bytes) = sym (length-words (words_of_data z)) ∙ ap length back in
    record {
      is = λ i. record { code = code; data_part = data_is i; lit = lit_is i; bss = bss_is i };
      fits = omega (arith, image.block_fits, words, later_whole data_bytes, length-padded lit_bytes);
    }

of_link : (fault : Option AsmFault) (y z : Qvm) → unless_fault fault y ≡ Ok z → y ≡ z
of_link None y z e = cc
of_link (Some f) y z e = absurd (cc)

pub linked_stays : (z : Qvm) → IsImage z → IsLinked z → Stays z
linked_stays z image from =
    let all : List SourceLine = source_of from.texts in
    let is : image_of all ≡ z = of_link (fault_in (length from.texts) all) (image_of all) z from.links in
    let P : Qvm → Type 0 = λ y. IsImage y → Stays y in
    subst P is (given_stays (flat_map (code_at all) (visits all)) (flat_map (bytes_at all Data) (visits all)) (flat_map (bytes_at all Lit) (visits all)) (state_after start all)) image
