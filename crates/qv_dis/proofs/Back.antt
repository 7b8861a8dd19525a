-- The text of an image is linked to the image's instructions, and that of an image that linking gave to this image.
use Rattle.std.proofs.Common.{◌≡◌, List, ℕ, ◌∷◌, [], Ok, refl, ap, ◌∙◌}
use Rattle.qv_image.specs.Image.{Qvm, IsImage}
use Rattle.asm_link.specs.Link.{linked}
use Rattle.asm_link.proofs.Comes.{made-linked}
use Rattle.asm_link.proofs.Rows.{rows_from}
use Rattle.qv_dis.specs.Back.{GivesCode, LeavesRoom, IsLinked}
use Rattle.qv_dis.specs.Text.{disassembly}
use Rattle.qv_dis.proofs.Kept.{FitsBack, Stays, image_back, linked_stays, room_fits}
use Rattle.qv_dis.proofs.Reading.{image_made}
use Rattle.qv_dis.proofs.Rows.{image_rows, length-code, rows_come}

text_linked : (z : Qvm) → IsImage z → FitsBack z → linked (disassembly z ∷ []) ≡ Ok (image_back z)
text_linked z image fits = made-linked (image_made z image) (rows_come (rows_from 0 (image_rows z ∷ [])) z image) image.some_code (length-code z image) fits

pub code_back : (z : Qvm) (text : List ℕ) → IsImage z → text ≡ disassembly z → LeavesRoom z → GivesCode text z
code_back z text image is room = record { image = image_back z; links = ap (λ t. linked (t ∷ [])) is ∙ text_linked z image (room_fits z room); code = refl }

pub image_same : (z : Qvm) (text : List ℕ) → IsImage z → text ≡ disassembly z → IsLinked z → linked (text ∷ []) ≡ Ok z
image_same z text image is from =
    let stays : Stays z = linked_stays z image from in
    ap (λ t. linked (t ∷ [])) is ∙ text_linked z image stays.fits ∙ ap (λ (y : Qvm). Ok y) stays.is
