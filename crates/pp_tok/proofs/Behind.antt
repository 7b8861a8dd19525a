-- The lines of a text behind one more piece, and behind one more line.
use Rattle.std.proofs.Common.{◌≡◌, ℕ, zero, suc, ◌+◌, ◌-◌, ◌<◌, ◌≤◌, Bool, true, false, List, [], ◌∷◌, ◌++◌, append_assoc, append-nil, map, length, take, drop, get_or, Option, Some, None, refl, sym, ap, ◌∙◌, arith}
use Rattle.std.specs.Prelude.{if◌then◌else◌, slice_index, Result, Ok, Err}
use Rattle.std.proofs.lemmas.List.{drop-drop, drop-map, drop_all, length-drop, length-map}
use Rattle.qv_base.specs.Place.{capped}
use Rattle.pp_tok.specs.declared.token.PpKind.{PpKind}
use Rattle.pp_tok.specs.declared.token.PpTok.{PpTok}
use Rattle.pp_tok.specs.declared.token.PpLine.{PpLine}
use Rattle.pp_tok.specs.declared.token.PpTokFault.{PpTokFault}
use Rattle.pp_tok.specs.declared.token.PpTokFault.TheVariants.{OpenComment, NoMemory}
use Rattle.pp_tok.specs.declared.piece.Piece.{Piece}
use Rattle.pp_tok.specs.declared.piece.What.{What}
use Rattle.pp_tok.specs.declared.piece.What.TheVariants.{Blank, LineEnd, Token}
use Rattle.pp_tok.specs.declared.piece.LineState.TheVariants.{Start}
use Rattle.pp_tok.specs.declared.chars.Chars.{Chars}
use Rattle.pp_tok.specs.declared.lines.OpenLine.{OpenLine}
use Rattle.pp_tok.specs.declared.lines.LineStart.{LineStart}
use Rattle.pp_tok.specs.declared.lines.LineRead.{LineRead}
use Rattle.pp_tok.specs.Chars.{Char}
use Rattle.pp_tok.specs.CharVectors.{AreChars}
use Rattle.pp_tok.specs.Pieces.{piece_at}
use Rattle.pp_tok.specs.Lines.{AreRead, on_ok, bytes_of, fresh, with_blank, with_token, token_of, lines_behind, tokens_in}
use Rattle.pp_tok.specs.Reading.{IsLineRead, part_at}

lines_behind-nil : (file n : ℕ) (begun : Bool) (part : OpenLine) → lines_behind file n begun part [] ≡ Ok (if begun then part.line ∷ [] else [])
unfolding lines_behind
lines_behind-nil file zero begun part = refl
lines_behind-nil file (suc n) begun part = refl

lines_behind-skip : (file n : ℕ) (begun : Bool) (part : OpenLine) (c : Char) (cs : List Char) → lines_behind file (suc n) begun part (c ∷ cs) ≡ lines_behind file n begun part cs
unfolding lines_behind
lines_behind-skip file n begun part c cs = refl

-- what a piece does
abbrev behind_what : ℕ → OpenLine → Char → List Char → ℕ → What → Result (List PpLine) ℕ
behind_what file part c cs n Blank = lines_behind file (n - 1) true (with_blank part) cs
behind_what file part c cs n LineEnd = on_ok (λ ls. part.line ∷ ls) (lines_behind file (n - 1) false (fresh (capped (c.line + 1))) cs)
behind_what file part c cs n (Token kind) = lines_behind file (n - 1) true (with_token part (token_of file part kind c.line (take n (bytes_of (c ∷ cs))))) cs

abbrev behind_piece : ℕ → OpenLine → Char → List Char → Option Piece → Result (List PpLine) ℕ
behind_piece file part c cs None = Err c.line
behind_piece file part c cs (Some p) = behind_what file part c cs p.length p.what

lines_behind-piece : (file : ℕ) (begun : Bool) (part : OpenLine) (c : Char) (cs : List Char) → lines_behind file 0 begun part (c ∷ cs) ≡ behind_piece file part c cs (piece_at part.state c.byte (bytes_of cs))
unfolding lines_behind
lines_behind-piece file begun part c cs = refl

-- characters of the piece before are passed
lines_passed : (file n : ℕ) (begun : Bool) (part : OpenLine) (cs : List Char) → lines_behind file n begun part cs ≡ lines_behind file 0 begun part (drop n cs)
lines_passed file zero begun part cs = refl
lines_passed file (suc n) begun part [] = lines_behind-nil file (suc n) begun part ∙ sym (lines_behind-nil file 0 begun part)
lines_passed file (suc n) begun part (c ∷ cs) = lines_behind-skip file n begun part c cs ∙ lines_passed file n begun part cs

-- a line that has a character is one, begun or not
pub begun_or_not : (file : ℕ) (part : OpenLine) (cs : List Char) → 0 < length cs → lines_behind file 0 true part cs ≡ lines_behind file 0 false part cs
begun_or_not file part [] lt = absurd (omega arith)
begun_or_not file part (c ∷ cs) lt = lines_behind-piece file true part c cs ∙ sym (lines_behind-piece file false part c cs)

cut_char : (cs : List Char) (i : ℕ) → i < length cs → drop i cs ≡ record { byte = slice_index (map (λ c. c.byte) cs) i; line = slice_index (map (λ c. c.line) cs) i } ∷ drop (suc i) cs
cut_char [] i lt = absurd (omega arith)
cut_char (c ∷ cs) zero lt = refl
cut_char (c ∷ cs) (suc i) lt = cut_char cs i (omega arith)

module _ (file : ℕ) (chars : Chars) (cs : List Char) (are : AreChars chars cs) (part : OpenLine) (i : ℕ) (lt : i < length chars.text.items) where
  here : Char
  here = record { byte = slice_index chars.text.items i; line = slice_index chars.lines.items i }

  count : length chars.text.items ≡ length cs
  count = ap length are.text ∙ length-map cs (λ c. c.byte)

  cut : drop i cs ≡ here ∷ drop (i + 1) cs
  unfolding here
  cut =
      let next : suc i ≡ i + 1 = omega arith in
      let inside : i < length cs = omega (arith, count) in
      cut_char cs i inside ∙ ap (λ n. record { byte = slice_index (map (λ c. c.byte) cs) i; line = slice_index (map (λ c. c.line) cs) i } ∷ drop n cs) next
      ∙ ap (λ bs. record { byte = slice_index bs i; line = slice_index (map (λ c. c.line) cs) i } ∷ drop (i + 1) cs) (sym are.text)
      ∙ ap (λ ls. record { byte = slice_index chars.text.items i; line = slice_index ls i } ∷ drop (i + 1) cs) (sym are.lines)

  behind : bytes_of (drop (i + 1) cs) ≡ drop (i + 1) chars.text.items
  behind = sym (drop-map (λ c. c.byte) (i + 1) cs) ∙ ap (drop (i + 1)) (sym are.text)

  whole : bytes_of (drop i cs) ≡ drop i chars.text.items
  whole = sym (drop-map (λ c. c.byte) i cs) ∙ ap (drop i) (sym are.text)

  piece_next : (o : Option Piece) → piece_at part.state (slice_index chars.text.items i) (drop (i + 1) chars.text.items) ≡ o → lines_behind file 0 true part (drop i cs) ≡ behind_piece file part here (drop (i + 1) cs) o
  unfolding here
  piece_next o is =
      ap (lines_behind file 0 true part) cut ∙ lines_behind-piece file true part here (drop (i + 1) cs)
      ∙ ap (behind_piece file part here (drop (i + 1) cs)) (ap (piece_at part.state (slice_index chars.text.items i)) behind ∙ is)

  passed : (begun : Bool) (next : OpenLine) (n : ℕ) → 0 < n → lines_behind file (n - 1) begun next (drop (i + 1) cs) ≡ lines_behind file 0 begun next (drop (i + n) cs)
  passed begun next n some =
      let sum : i + 1 + (n - 1) ≡ i + n = omega arith in
      lines_passed file (n - 1) begun next (drop (i + 1) cs) ∙ ap (lines_behind file 0 begun next) (drop-drop (n - 1) (i + 1) cs ∙ ap (λ k. drop k cs) sum)

  pub open_on : piece_at part.state (slice_index chars.text.items i) (drop (i + 1) chars.text.items) ≡ None → lines_behind file 0 true part (drop i cs) ≡ Err (slice_index chars.lines.items i)
  unfolding here
  open_on is = piece_next None is

  module _ (p : Piece) (is : piece_at part.state (slice_index chars.text.items i) (drop (i + 1) chars.text.items) ≡ Some p) (some : 0 < p.length) where
    what_on : (w : What) → p.what ≡ w → lines_behind file 0 true part (drop i cs) ≡ behind_what file part here (drop (i + 1) cs) p.length w
    what_on w what = piece_next (Some p) is ∙ ap (behind_what file part here (drop (i + 1) cs) p.length) what

    pub blank_on : p.what ≡ Blank → lines_behind file 0 true part (drop i cs) ≡ lines_behind file 0 true (with_blank part) (drop (i + p.length) cs)
    blank_on what = what_on Blank what ∙ passed true (with_blank part) p.length some

    pub end_on : p.what ≡ LineEnd → lines_behind file 0 true part (drop i cs) ≡ on_ok (λ ls. part.line ∷ ls) (lines_behind file 0 false (fresh (capped (slice_index chars.lines.items i + 1))) (drop (i + p.length) cs))
    unfolding here
    end_on what = what_on LineEnd what ∙ ap (on_ok (λ ls. part.line ∷ ls)) (passed false (fresh (capped (slice_index chars.lines.items i + 1))) p.length some)

    pub token_on : (kind : PpKind) → p.what ≡ Token kind →
        lines_behind file 0 true part (drop i cs) ≡ lines_behind file 0 true (with_token part (token_of file part kind (slice_index chars.lines.items i) (take p.length (drop i chars.text.items)))) (drop (i + p.length) cs)
    unfolding here
    token_on kind what =
        let spelling : take p.length (bytes_of (here ∷ drop (i + 1) cs)) ≡ take p.length (drop i chars.text.items) = ap (take p.length) (ap bytes_of (sym cut) ∙ whole) in
        what_on (Token kind) what
        ∙ ap (λ s. lines_behind file (p.length - 1) true (with_token part (token_of file part kind (slice_index chars.lines.items i) s)) (drop (i + 1) cs)) spelling
        ∙ passed true (with_token part (token_of file part kind (slice_index chars.lines.items i) (take p.length (drop i chars.text.items)))) p.length some

-- no character is left
module _ (file : ℕ) (chars : Chars) (cs : List Char) (are : AreChars chars cs) (i : ℕ) (le : length chars.text.items ≤ i) where
  pub none_left : drop i cs ≡ []
  none_left = let count : length chars.text.items ≡ length cs = ap length are.text ∙ length-map cs (λ c. c.byte) in drop_all i cs (omega (arith, count))

  pub last_on : (part next : OpenLine) → lines_behind file 0 true part (drop i cs) ≡ on_ok (λ ls. part.line ∷ ls) (lines_behind file 0 false next (drop i cs))
  last_on part next =
      ap (lines_behind file 0 true part) none_left ∙ lines_behind-nil file 0 true part
      ∙ sym (ap (on_ok (λ ls. part.line ∷ ls)) (ap (lines_behind file 0 false next) none_left ∙ lines_behind-nil file 0 false next))

pub next_is : (file : ℕ) (cs : List Char) (s : LineStart) (i n : ℕ) → s.at ≡ i → s.number ≡ n → s.state ≡ Start → lines_behind file 0 false (fresh n) (drop i cs) ≡ lines_behind file 0 false (part_at s) (drop s.at cs)
next_is file cs s i n at number state =
    ap (λ k. lines_behind file 0 false (fresh n) (drop k cs)) (sym at) ∙ ap (λ k. lines_behind file 0 false (fresh k) (drop s.at cs)) (sym number)
    ∙ ap (λ k. lines_behind file 0 false (record { line = record { number = s.number; toks = [] }; state = k; space = false }) (drop s.at cs)) (sym state)

pub index_of : (xs : List ℕ) (i d : ℕ) → i < length xs → get_or xs i d ≡ slice_index xs i
index_of [] i d lt = absurd (omega arith)
index_of (x ∷ xs) zero d lt = refl
index_of (x ∷ xs) (suc i) d lt = index_of xs i d (omega arith)

-- as many bytes as lines
pub same_count : (chars : Chars) (cs : List Char) → AreChars chars cs → length chars.text.items ≡ length chars.lines.items
same_count chars cs are = ap length are.text ∙ length-map cs (λ c. c.byte) ∙ sym (ap length are.lines ∙ length-map cs (λ c. c.line))

-- a line is read: its tokens, or it, come behind what is read

append_one : {A : Type 0} (done : List A) (x : A) (xs : List A) → done ++ x ∷ xs ≡ (done ++ x ∷ []) ++ xs
append_one done x xs = sym (append_assoc done (x ∷ []) xs)

lines_more : (done : List PpLine) (l : PpLine) (r : Result (List PpLine) ℕ) → on_ok (λ ls. done ++ ls) (on_ok (λ ls. l ∷ ls) r) ≡ on_ok (λ ls. (done ++ l ∷ []) ++ ls) r
lines_more done l (Ok ls) = ap (λ x. Ok x) (append_one done l ls)
lines_more done l (Err n) = refl

tokens_more : (done : List PpTok) (l : PpLine) (r : Result (List PpLine) ℕ) → on_ok (λ ls. done ++ tokens_in ls) (on_ok (λ ls. l ∷ ls) r) ≡ on_ok (λ ls. (done ++ l.toks) ++ tokens_in ls) r
tokens_more done l (Ok ls) = ap (λ x. Ok x) (sym (append_assoc done l.toks (tokens_in ls)))
tokens_more done l (Err n) = refl

-- the tokens of a line that has none are none, begun or not
tokens_begun : (file : ℕ) (part : OpenLine) (done : List PpTok) → part.line.toks ≡ [] → (cs : List Char) →
    on_ok (λ ls. done ++ tokens_in ls) (lines_behind file 0 false part cs) ≡ on_ok (λ ls. done ++ tokens_in ls) (lines_behind file 0 true part cs)
tokens_begun file part done none [] =
    ap (on_ok (λ ls. done ++ tokens_in ls)) (lines_behind-nil file 0 false part)
    ∙ ap (λ ts. Ok (done ++ ts)) (sym (append-nil part.line.toks ∙ none)) ∙ sym (ap (on_ok (λ ls. done ++ tokens_in ls)) (lines_behind-nil file 0 true part))
tokens_begun file part done none (c ∷ cs) = ap (on_ok (λ ls. done ++ tokens_in ls)) (sym (begun_or_not file part (c ∷ cs) (omega arith)))

module _ (file : ℕ) (chars : Chars) (cs : List Char) (are : AreChars chars cs) (start : LineStart) where
  count_left : length chars.text.items ≡ length cs
  count_left = ap length are.text ∙ length-map cs (λ c. c.byte)

  left : start.at < length chars.text.items → 0 < length (drop start.at cs)
  left lt = omega (arith, count_left, length-drop start.at cs)

  pub line_more : (done : List PpLine) (all : Result (List PpLine) ℕ) (read : LineRead) → start.at < length chars.text.items → IsLineRead file start cs (Ok read) →
      on_ok (λ ls. done ++ ls) (lines_behind file 0 false (part_at start) (drop start.at cs)) ≡ all → on_ok (λ ls. (done ++ read.line ∷ []) ++ ls) (lines_behind file 0 false (part_at read.next) (drop read.next.at cs)) ≡ all
  line_more done all read lt is so_far =
      let rest : Result (List PpLine) ℕ = lines_behind file 0 false (part_at read.next) (drop read.next.at cs) in
      sym (lines_more done read.line rest) ∙ sym (ap (on_ok (λ ls. done ++ ls)) (sym (begun_or_not file (part_at start) (drop start.at cs) (left lt)) ∙ is)) ∙ so_far

  pub line_fault : (done : List PpLine) (all : Result (List PpLine) ℕ) (fault : PpTokFault) → start.at < length chars.text.items → IsLineRead file start cs (Err fault) →
      on_ok (λ ls. done ++ ls) (lines_behind file 0 false (part_at start) (drop start.at cs)) ≡ all → AreRead (Err fault) all
  line_fault done all (OpenComment n) lt is so_far = sym so_far ∙ ap (on_ok (λ ls. done ++ ls)) (sym (begun_or_not file (part_at start) (drop start.at cs) (left lt)) ∙ is)
  line_fault done all NoMemory lt is so_far = tt

  pub lines_end : (done : List PpLine) (all : Result (List PpLine) ℕ) → length chars.text.items ≤ start.at → on_ok (λ ls. done ++ ls) (lines_behind file 0 false (part_at start) (drop start.at cs)) ≡ all → all ≡ Ok done
  lines_end done all le so_far =
      sym so_far ∙ ap (λ l. on_ok (λ ls. done ++ ls) (lines_behind file 0 false (part_at start) l)) (none_left file chars cs are start.at le) ∙ ap (on_ok (λ ls. done ++ ls)) (lines_behind-nil file 0 false (part_at start))
      ∙ ap (λ l. Ok l) (append-nil done)

  pub tokens_on : (done : List PpTok) (all : Result (List PpTok) ℕ) (read : LineRead) → IsLineRead file start cs (Ok read) →
      on_ok (λ ls. done ++ tokens_in ls) (lines_behind file 0 true (part_at start) (drop start.at cs)) ≡ all →
      on_ok (λ ls. (done ++ read.line.toks) ++ tokens_in ls) (lines_behind file 0 true (part_at read.next) (drop read.next.at cs)) ≡ all
  tokens_on done all read is so_far =
      let rest : Result (List PpLine) ℕ = lines_behind file 0 false (part_at read.next) (drop read.next.at cs) in
      sym (ap (on_ok (λ ls. done ++ tokens_in ls)) is ∙ tokens_more done read.line rest ∙ tokens_begun file (part_at read.next) (done ++ read.line.toks) refl (drop read.next.at cs)) ∙ so_far

  pub tokens_fault : (done : List PpTok) (all : Result (List PpTok) ℕ) (fault : PpTokFault) → IsLineRead file start cs (Err fault) →
      on_ok (λ ls. done ++ tokens_in ls) (lines_behind file 0 true (part_at start) (drop start.at cs)) ≡ all → AreRead (Err fault) all
  tokens_fault done all (OpenComment n) is so_far = sym so_far ∙ ap (on_ok (λ ls. done ++ tokens_in ls)) is
  tokens_fault done all NoMemory is so_far = tt

  pub tokens_end : (done : List PpTok) (all : Result (List PpTok) ℕ) → length chars.text.items ≤ start.at → on_ok (λ ls. done ++ tokens_in ls) (lines_behind file 0 true (part_at start) (drop start.at cs)) ≡ all → all ≡ Ok done
  tokens_end done all le so_far =
      sym so_far ∙ ap (λ l. on_ok (λ ls. done ++ tokens_in ls) (lines_behind file 0 true (part_at start) l)) (none_left file chars cs are start.at le)
      ∙ ap (on_ok (λ ls. done ++ tokens_in ls)) (lines_behind-nil file 0 true (part_at start)) ∙ ap (λ l. Ok l) (append-nil done)

-- all of a file's tokens, begun or not
pub tokens_all : (file : ℕ) (part : OpenLine) → part.line.toks ≡ [] → (cs : List Char) → on_ok tokens_in (lines_behind file 0 true part cs) ≡ on_ok tokens_in (lines_behind file 0 false part cs)
tokens_all file part none cs = sym (tokens_begun file part [] none cs)

-- from the first line of a file on
pub from_start : (file : ℕ) (cs : List Char) (s : LineStart) → s.at ≡ 0 → s.number ≡ 1 → s.state ≡ Start → on_ok tokens_in (lines_behind file 0 true (part_at s) (drop s.at cs)) ≡ on_ok tokens_in (lines_behind file 0 false (fresh 1) cs)
from_start file cs s at number state = tokens_all file (part_at s) refl (drop s.at cs) ∙ ap (on_ok tokens_in) (sym (next_is file cs s 0 1 at number state))
