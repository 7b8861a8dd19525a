-- Lines as a writer makes them, and the rows that they stand for.
use Rattle.std.proofs.Common.{◌≡◌, ℕ, ◌<◌, Bool, true, List, [], ◌∷◌, ◌++◌, length, append_assoc, append-nil, Ok, refl, sym, ap, ◌∙◌, arith}
use Rattle.std.specs.Prelude.{codes, IsTrue, map, not, Some, None, if◌then◌else◌}
use Rattle.std.specs.List.{list_all}
use Rattle.std.specs.Option.{option_and_then}
use Rattle.std.proofs.Math.Nat.{mod-eq_of_lt}
use Rattle.std.proofs.lemmas.Bool.Decides.{nat_tests}
use Rattle.std.proofs.lemmas.Grind.{flat_map-append}
use Rattle.qv_base.specs.Decimal.{is_digit}
use Rattle.qv_ops.specs.declared.op.Op.{Op}
use Rattle.qv_ops.specs.declared.op.Op.TheVariants.{BlockCopy}
use Rattle.asm_line.specs.declared.words.Meaning.TheVariants.{WithExpression}
use Rattle.asm_line.specs.Operand.{expression, is_name, is_name_byte, is_sign, name_of, number_of}
use Rattle.asm_line.specs.Read.{bytes_row, checked, equation_row, is_alignment, procedure_row, read_row, round_up, row_behind, with_ok}
use Rattle.asm_line.specs.Row.{Expression, Row, address, constant, Proc, EndProc, One, LocalAt, ParamAt, Label, Equ, Word, LitByte, Skip, Align}
use Rattle.asm_line.specs.Text.{lines_of, is_word_byte, text_of, words_of}
use Rattle.asm_line.specs.Words.{meaning_of}
use Rattle.asm_line.proofs.Numbers.{Writes}
use Rattle.asm_line.proofs.Operands.{expression-name, pieces-plain}
use Rattle.asm_line.proofs.Spaced.{AreWords, IsWord, is_line_byte, is_word, one_line-spaced, spaced, tested_word, words_of-spaced}
use Rattle.asm_line.proofs.Text.{both, both_true, lines_of-line, lines_of-nil}

-- names

name_byte_plain : (b : ℕ) → is_name_byte b ≡ true → (is_word_byte b ≡ true) × (is_line_byte b ≡ true) × (not (is_sign b) ≡ true)
name_byte_plain b h = grind (arith, nat_tests)

-- a test that each byte of a name passes
name_bytes : (test : ℕ → Bool) → ((b : ℕ) → is_name_byte b ≡ true → test b ≡ true) → (bs : List ℕ) → list_all is_name_byte bs ≡ true → list_all test bs ≡ true
name_bytes test pass [] h = refl
name_bytes test pass (b ∷ bs) h =
    let k = both_true (is_name_byte b) (list_all is_name_byte bs) h in
    both (test b) (list_all test bs) (pass b k.0) (name_bytes test pass bs k.1)

all_name_bytes : (name : List ℕ) → is_name name ≡ true → list_all is_name_byte name ≡ true
all_name_bytes [] h = refl
all_name_bytes (b ∷ bs) h = (both_true (not (is_digit b)) (list_all is_name_byte (b ∷ bs)) h).1

name_some : (name : List ℕ) → is_name name ≡ true → 0 < length name
name_some [] h = absurd (cc)
name_some (b ∷ bs) h = omega arith

-- a name is a word
pub name-word : (name : List ℕ) → is_name name ≡ true → IsWord name
name-word name h =
    let bytes = all_name_bytes name h in
    record {
      some = name_some name h;
      bytes = name_bytes is_word_byte (λ b k. (name_byte_plain b k).0) name bytes;
      one_line = name_bytes is_line_byte (λ b k. (name_byte_plain b k).1) name bytes;
    }

pub name_of-name : (name : List ℕ) → is_name name ≡ true → name_of name ≡ Some name
name_of-name name h = ap (λ k. if k then Some name else None) h

-- a word that is this expression
pub record Says (text : List ℕ) (e : Expression) : Type 0 where
  pub is_word : IsWord text
  pub value : expression text ≡ Some e

-- a number that is written
pub number-says : (text : List ℕ) (n : ℕ) → Writes text n → Says text (constant n)
number-says text n w = record { is_word = w.is_word; value = w.value }

-- a name stands for its address
pub name-says : (name : List ℕ) → is_name name ≡ true → Says name (address name)
name-says name h = record {
  is_word = name-word name h;
  value =
      expression-name name (pieces-plain name (name_some name h) (name_bytes (λ b. not (is_sign b)) (λ b k. (name_byte_plain b k).2) name (all_name_bytes name h))) h;
}

-- lines

-- a text without a line feed that stands for this row
pub record Reads (line : List ℕ) (row : Row) : Type 0 where
  pub one_line : IsTrue (list_all is_line_byte line)
  pub row_is : read_row (words_of line) ≡ Ok row

-- a line of words
pub line-reads : (w : List ℕ) (ws : List (List ℕ)) (row : Row) → IsWord w → AreWords ws → read_row (w ∷ ws) ≡ Ok row → Reads (spaced w ws) row
line-reads w ws row is are e = record { one_line = one_line-spaced w ws is are; row_is = ap read_row (words_of-spaced w ws is are) ∙ e }

-- one word
pub alone-reads : (w : List ℕ) (row : Row) → is_word w ≡ true → read_row (w ∷ []) ≡ Ok row → Reads w row
alone-reads w row is e = line-reads w [] row (tested_word w is) tt e

-- one word and an operand
operand-reads : (w text : List ℕ) (row : Row) → is_word w ≡ true → IsWord text → read_row (w ∷ text ∷ []) ≡ Ok row → Reads (w ++ 32 ∷ text) row
operand-reads w text row is operand e = line-reads w (text ∷ []) row (tested_word w is) (operand, tt) e

-- an instruction with an expression
pub instr-reads : (w : List ℕ) (op : Op) (text : List ℕ) (e : Expression) → is_word w ≡ true → meaning_of w ≡ Some (WithExpression op) → Says text e → Reads (w ++ 32 ∷ text) (One op e)
instr-reads w op text e is means says =
    operand-reads w text (One op e) is says.is_word (
    ap (λ m. row_behind m (text ∷ [])) means
    ∙ ap (λ o. with_ok (λ e. One op e) (checked o [])) says.value
    )

-- the address of a local variable, and of a parameter
pub local-reads : (text : List ℕ) (e : Expression) → Says text e → Reads (codes "ADDRLP4 " ++ text) (LocalAt e)
local-reads text e says = operand-reads (codes "ADDRLP4") text (LocalAt e) refl says.is_word (ap (λ o. with_ok (λ e. LocalAt e) (checked o [])) says.value)

pub param-reads : (text : List ℕ) (e : Expression) → Says text e → Reads (codes "ADDRFP4 " ++ text) (ParamAt e)
param-reads text e says = operand-reads (codes "ADDRFP4") text (ParamAt e) refl says.is_word (ap (λ o. with_ok (λ e. ParamAt e) (checked o [])) says.value)

-- a block is copied
pub copy-reads : (text : List ℕ) (n : ℕ) → Writes text n → Reads (codes "ASGNB " ++ text) (One BlockCopy (constant (round_up n)))
copy-reads text n w =
    operand-reads (codes "ASGNB") text (One BlockCopy (constant (round_up n))) refl w.is_word (ap (λ o. with_ok (λ n. One BlockCopy (constant (round_up n))) (checked o [])) w.number)

-- a label
pub label-reads : (name : List ℕ) → is_name name ≡ true → Reads (codes "LABELV " ++ name) (Label name)
label-reads name h =
    operand-reads (codes "LABELV") name (Label name) refl (name-word name h) (ap (λ o. with_ok (λ name. Label name) (checked o [])) (name_of-name name h))

-- a name and its number
pub equation-reads : (name text : List ℕ) (n : ℕ) → is_name name ≡ true → Writes text n → Reads (codes "equ " ++ name ++ 32 ∷ text) (Equ name n)
equation-reads name text n h w =
    line-reads (codes "equ") (name ∷ text ∷ []) (Equ name n) (tested_word (codes "equ") refl) (name-word name h, (w.is_word, tt)) (
    ap (λ o. checked (equation_row o (number_of text)) []) (name_of-name name h)
    ∙ ap (λ o. checked (equation_row (Some name) o) []) w.number
    )

-- the first line of a procedure, and the last one: its name, and its bytes of locals and of arguments
sizes-row : (name locals args : List ℕ) (l a : ℕ) → is_name name ≡ true → Writes locals l → Writes args a → checked (procedure_row (name_of name) (number_of locals) (number_of args)) [] ≡ Ok (Proc name l a)
sizes-row name locals args l a h wl wa =
    ap (λ o. checked (procedure_row o (number_of locals) (number_of args)) []) (name_of-name name h)
    ∙ ap (λ o. checked (procedure_row (Some name) o (number_of args)) []) wl.number
    ∙ ap (λ o. checked (procedure_row (Some name) (Some l) o) []) wa.number

pub procedure-reads : (name locals args : List ℕ) (l a : ℕ) → is_name name ≡ true → Writes locals l → Writes args a → Reads (codes "proc " ++ name ++ 32 ∷ (locals ++ 32 ∷ args)) (Proc name l a)
procedure-reads name locals args l a h wl wa =
    line-reads (codes "proc") (name ∷ locals ∷ args ∷ []) (Proc name l a) (tested_word (codes "proc") refl) (name-word name h, (wl.is_word, (wa.is_word, tt))) (sizes-row name locals args l a h wl wa)

pub end-reads : (name locals args : List ℕ) (l a : ℕ) → is_name name ≡ true → Writes locals l → Writes args a → Reads (codes "endproc " ++ name ++ 32 ∷ (locals ++ 32 ∷ args)) EndProc
end-reads name locals args l a h wl wa =
    line-reads (codes "endproc") (name ∷ locals ∷ args ∷ []) EndProc (tested_word (codes "endproc") refl) (name-word name h, (wl.is_word, (wa.is_word, tt))) (ap (with_ok (λ row. EndProc)) (sizes-row name locals args l a h wl wa))

-- a word of the data: an expression, or a number
pub address-reads : (text : List ℕ) (e : Expression) → Says text e → Reads (codes "address " ++ text) (Word e)
address-reads text e says = operand-reads (codes "address") text (Word e) refl says.is_word (ap (λ o. with_ok (λ e. Word e) (checked o [])) says.value)

pub word-reads : (text : List ℕ) (n : ℕ) → Writes text n → Reads (codes "byte 4 " ++ text) (Word (constant n))
word-reads text n w =
    line-reads (codes "byte") (codes "4" ∷ text ∷ []) (Word (constant n)) (tested_word (codes "byte") refl) (tested_word (codes "4") refl, (w.is_word, tt)) (ap (λ o. checked (bytes_row (Some 4) o) []) w.number)

-- a byte of the literals
pub byte-reads : (text : List ℕ) (n : ℕ) → n < 256 → Writes text n → Reads (codes "byte 1 " ++ text) (LitByte n)
byte-reads text n lt w =
    line-reads (codes "byte") (codes "1" ∷ text ∷ []) (LitByte n) (tested_word (codes "byte") refl) (tested_word (codes "1") refl, (w.is_word, tt)) (
    ap (λ o. checked (bytes_row (Some 1) o) []) w.number
    ∙ ap (λ b. Ok (LitByte b)) (mod-eq_of_lt lt)
    )

-- zero bytes, and those up to a multiple of a number
pub skip-reads : (text : List ℕ) (n : ℕ) → Writes text n → Reads (codes "skip " ++ text) (Skip n)
skip-reads text n w = operand-reads (codes "skip") text (Skip n) refl w.is_word (ap (λ o. with_ok (λ n. Skip n) (checked o [])) w.number)

pub align-reads : (text : List ℕ) (n : ℕ) → is_alignment n ≡ true → Writes text n → Reads (codes "align " ++ text) (Align n)
align-reads text n h w =
    operand-reads (codes "align") text (Align n) refl w.is_word (
    ap (λ o. with_ok (λ n. Align n) (checked (option_and_then (λ n. if is_alignment n then Some n else None) o) [])) w.number
    ∙ ap (λ k. with_ok (λ n. Align n) (checked (if k then Some n else None) [])) h
    )

-- texts

-- lines that stand for these rows
abbrev pub AllRead : List (List ℕ) → List Row → Type 0
AllRead [] [] = Unit {0}
AllRead (line ∷ lines) (row ∷ rows) = Reads line row × AllRead lines rows
AllRead lines rows = ⊥

-- a text made of these rows: a line with its line feed for each
pub record MadeOf (text : List ℕ) (rows : List Row) : Type 0 where
  pub lines : List (List ℕ)
  pub text_is : text ≡ text_of lines
  pub read : AllRead lines rows

-- such a text is cut into its lines and the blank line behind the last line feed
pub lines_of-lines : (lines : List (List ℕ)) (rows : List Row) → AllRead lines rows → lines_of (text_of lines) ≡ lines ++ [] ∷ []
lines_of-lines [] [] h = lines_of-nil
lines_of-lines [] (row ∷ rows) h = absurd h
lines_of-lines (line ∷ lines) [] h = absurd h
lines_of-lines (line ∷ lines) (row ∷ rows) h =
    ap lines_of (append_assoc line (10 ∷ []) (text_of lines)) ∙ lines_of-line line (text_of lines) h.0.one_line ∙ ap (λ ls. line ∷ ls) (lines_of-lines lines rows h.1)

pub text-made : (lines : List (List ℕ)) (rows : List Row) → AllRead lines rows → MadeOf (text_of lines) rows
text-made lines rows h = record { lines = lines; text_is = refl; read = h }

-- nothing, one line, and one text behind another
pub none-made : MadeOf [] []
none-made = text-made [] [] tt

pub line-made : (line : List ℕ) (row : Row) → Reads line row → MadeOf (line ++ 10 ∷ []) (row ∷ [])
line-made line row h = record { lines = line ∷ []; text_is = sym (append-nil (line ++ 10 ∷ [])); read = (h, tt) }

pub all_read-append : (lines more : List (List ℕ)) (rows rest : List Row) → AllRead lines rows → AllRead more rest → AllRead (lines ++ more) (rows ++ rest)
all_read-append [] more [] rest h k = k
all_read-append [] more (row ∷ rows) rest h k = absurd h
all_read-append (line ∷ lines) more [] rest h k = absurd h
all_read-append (line ∷ lines) more (row ∷ rows) rest h k = (h.0, all_read-append lines more rows rest h.1 k)

pub append-made : (a b : List ℕ) (xs ys : List Row) → MadeOf a xs → MadeOf b ys → MadeOf (a ++ b) (xs ++ ys)
append-made a b xs ys first second = record {
  lines = first.lines ++ second.lines;
  text_is = ap (λ t. t ++ b) first.text_is ∙ ap (λ t. text_of first.lines ++ t) second.text_is ∙ sym (flat_map-append (λ line. line ++ 10 ∷ []) first.lines second.lines);
  read = all_read-append first.lines second.lines xs ys first.read second.read;
}

pub all_read-map : {X : Type 0} (line : X → List ℕ) (row : X → Row) (test : X → Bool) → ((x : X) → test x ≡ true → Reads (line x) (row x)) → (xs : List X) → list_all test xs ≡ true → AllRead (map line xs) (map row xs)
all_read-map line row test read [] h = tt
all_read-map line row test read (x ∷ xs) h =
    let k = both_true (test x) (list_all test xs) h in
    (read x k.0, all_read-map line row test read xs k.1)

-- a line for each of some things that pass a test
pub map-made : {X : Type 0} (line : X → List ℕ) (row : X → Row) (test : X → Bool) → ((x : X) → test x ≡ true → Reads (line x) (row x)) → (xs : List X) → list_all test xs ≡ true → MadeOf (text_of (map line xs)) (map row xs)
map-made line row test read xs h = text-made (map line xs) (map row xs) (all_read-map line row test read xs h)
