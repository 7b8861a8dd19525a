-- Lines of a text, and words of a line.
use Rattle.std.proofs.Common.{◌≡◌, ℕ, zero, suc, ◌+◌, ◌<◌, Bool, true, false, ◌&&◌, List, [], ◌∷◌, ◌++◌, append-nil, length, take, drop, get_or, refl, sym, ap, ◌∙◌, arith}
use Rattle.std.specs.Prelude.{IsTrue, if◌then◌else◌, not, ◌==◌}
use Rattle.std.specs.List.{list_all}
use Rattle.std.proofs.lemmas.Bool.Decides.{nat_tests}
use Rattle.std.proofs.lemmas.List.{drop_more, take-append-drop, take_all}
use Rattle.asm_line.specs.Text.{onto, lines_of, is_blank, is_word_byte, starts_with, before, words_of}

pub both_true : (a b : Bool) → (a && b) ≡ true → (a ≡ true) × (b ≡ true)
both_true true b h = (refl, h)
both_true false b h = (h, cc)

not_true : (a : Bool) → not a ≡ true → a ≡ false
not_true true h = sym h
not_true false h = refl

pub both : (a b : Bool) → a ≡ true → b ≡ true → (a && b) ≡ true
both a b h k = ap (λ x. x && b) h ∙ k

-- lines

pub lines_of-nil : lines_of [] ≡ [] ∷ []
unfolding lines_of
lines_of-nil = refl

pub lines_of-cons : (b : ℕ) (bs : List ℕ) → lines_of (b ∷ bs) ≡ (if b == 10 then [] ∷ lines_of bs else onto b (lines_of bs))
unfolding lines_of
lines_of-cons b bs = refl

-- a byte that is no line feed
pub lines_of-onto : (b : ℕ) (bs : List ℕ) → (b == 10) ≡ false → lines_of (b ∷ bs) ≡ onto b (lines_of bs)
lines_of-onto b bs h = lines_of-cons b bs ∙ ap (λ k. if k then [] ∷ lines_of bs else onto b (lines_of bs)) h

-- a line that ends at a line feed
pub lines_of-line : (line rest : List ℕ) → IsTrue (list_all (λ b. not (b == 10)) line) → lines_of (line ++ 10 ∷ rest) ≡ line ∷ lines_of rest
lines_of-line [] rest h = lines_of-cons 10 rest
lines_of-line (b ∷ line) rest h =
    let k : (not (b == 10) ≡ true) × (list_all (λ b. not (b == 10)) line ≡ true) = both_true (not (b == 10)) (list_all (λ b. not (b == 10)) line) h in
    lines_of-onto b (line ++ 10 ∷ rest) (not_true (b == 10) k.0) ∙ ap (onto b) (lines_of-line line rest k.1)

-- a last line
pub lines_of-last : (line : List ℕ) → IsTrue (list_all (λ b. not (b == 10)) line) → lines_of line ≡ line ∷ []
lines_of-last [] h = lines_of-nil
lines_of-last (b ∷ line) h =
    let k : (not (b == 10) ≡ true) × (list_all (λ b. not (b == 10)) line ≡ true) = both_true (not (b == 10)) (list_all (λ b. not (b == 10)) line) h in
    lines_of-onto b line (not_true (b == 10) k.0) ∙ ap (onto b) (lines_of-last line k.1)

-- words

pub words_of-nil : words_of [] ≡ []
unfolding words_of
words_of-nil = refl

pub words_of-cons : (b : ℕ) (bs : List ℕ) → words_of (b ∷ bs) ≡ before b (starts_with is_word_byte bs) (words_of bs)
unfolding words_of
words_of-cons b bs = refl

blank_no_comment : (b : ℕ) → is_blank b ≡ true → (b == 59) ≡ false
blank_no_comment b h = grind (arith, nat_tests)

word_no_comment : (b : ℕ) → is_word_byte b ≡ true → (b == 59) ≡ false
word_no_comment b h = grind (arith, nat_tests)

word_no_blank : (b : ℕ) → is_word_byte b ≡ true → is_blank b ≡ false
word_no_blank b h = grind (arith, nat_tests)

-- a blank is passed
pub words_of-blank : (b : ℕ) (bs : List ℕ) → IsTrue (is_blank b) → words_of (b ∷ bs) ≡ words_of bs
words_of-blank b bs h =
    words_of-cons b bs
    ∙ ap (λ k. if k then [] else (if is_blank b then words_of bs else (if starts_with is_word_byte bs then onto b (words_of bs) else (b ∷ []) ∷ words_of bs))) (blank_no_comment b h)
    ∙ ap (λ k. if k then words_of bs else (if starts_with is_word_byte bs then onto b (words_of bs) else (b ∷ []) ∷ words_of bs)) h

-- a comment is passed
pub words_of-comment : (bs : List ℕ) → words_of (59 ∷ bs) ≡ []
words_of-comment bs = words_of-cons 59 bs

word_before : (b : ℕ) (bs : List ℕ) → is_word_byte b ≡ true → words_of (b ∷ bs) ≡ (if starts_with is_word_byte bs then onto b (words_of bs) else (b ∷ []) ∷ words_of bs)
word_before b bs h =
    words_of-cons b bs
    ∙ ap (λ k. if k then [] else (if is_blank b then words_of bs else (if starts_with is_word_byte bs then onto b (words_of bs) else (b ∷ []) ∷ words_of bs))) (word_no_comment b h)
    ∙ ap (λ k. if k then words_of bs else (if starts_with is_word_byte bs then onto b (words_of bs) else (b ∷ []) ∷ words_of bs)) (word_no_blank b h)

word_behind : (b : ℕ) (word rest : List ℕ) → IsTrue (list_all is_word_byte (b ∷ word)) → starts_with is_word_byte rest ≡ false → words_of (b ∷ word ++ rest) ≡ (b ∷ word) ∷ words_of rest
word_behind b [] rest h other =
    let k : (is_word_byte b ≡ true) × (true ≡ true) = both_true (is_word_byte b) true h in
    word_before b rest k.0 ∙ ap (λ j. if j then onto b (words_of rest) else (b ∷ []) ∷ words_of rest) other
word_behind b (c ∷ word) rest h other =
    let k : (is_word_byte b ≡ true) × (list_all is_word_byte (c ∷ word) ≡ true) = both_true (is_word_byte b) (list_all is_word_byte (c ∷ word)) h in
    let j : (is_word_byte c ≡ true) × (list_all is_word_byte word ≡ true) = both_true (is_word_byte c) (list_all is_word_byte word) k.1 in
    word_before b (c ∷ word ++ rest) k.0
    ∙ ap (λ i. if i then onto b (words_of (c ∷ word ++ rest)) else (b ∷ []) ∷ words_of (c ∷ word ++ rest)) j.0
    ∙ ap (onto b) (word_behind c word rest k.1 other)

-- a word, where no byte of a word follows
pub words_of-word : (word rest : List ℕ) → 0 < length word → IsTrue (list_all is_word_byte word) → starts_with is_word_byte rest ≡ false → words_of (word ++ rest) ≡ word ∷ words_of rest
words_of-word [] rest some h other = absurd (omega arith)
words_of-word (b ∷ word) rest some h other = word_behind b word rest h other

blank_starts : (b : ℕ) → is_blank b ≡ true → is_word_byte b ≡ false
blank_starts b h = grind (arith, nat_tests)

-- a word, a blank and the rest
pub words_of-word-blank : (word : List ℕ) (b : ℕ) (rest : List ℕ) → 0 < length word → IsTrue (list_all is_word_byte word) → IsTrue (is_blank b) → words_of (word ++ b ∷ rest) ≡ word ∷ words_of rest
words_of-word-blank word b rest some h blank =
    words_of-word word (b ∷ rest) some h (blank_starts b blank) ∙ ap (λ ws. word ∷ ws) (words_of-blank b rest blank)

-- a last word
pub words_of-last : (word : List ℕ) → 0 < length word → IsTrue (list_all is_word_byte word) → words_of word ≡ word ∷ []
words_of-last word some h =
    ap words_of (sym (append-nil word)) ∙ words_of-word word [] some h refl ∙ ap (λ ws. word ∷ ws) words_of-nil

no_line_feed : (b : ℕ) → ¬ ((b == 10) ≡ true) → not (b == 10) ≡ true
no_line_feed b h = elim (b == 10) as (λ k. ¬ (k ≡ true) → not k ≡ true) [ true ↦ λ h. absurd (h refl) | false ↦ λ h. refl ] h

-- no line feed stands before a place
none_before : (text : List ℕ) (i : ℕ) → ((k : ℕ) → k < i → ¬ ((get_or text k 0 == 10) ≡ true)) → list_all (λ b. not (b == 10)) (take i text) ≡ true
none_before [] zero h = refl
none_before [] (suc i) h = refl
none_before (b ∷ text) zero h = refl
none_before (b ∷ text) (suc i) h =
    both (not (b == 10)) (list_all (λ b. not (b == 10)) (take i text)) (no_line_feed b (h 0 (omega arith))) (none_before text i (λ k lt. h (suc k) (omega arith)))

-- the text is cut at its first line feed
pub lines_of-cut : (text : List ℕ) (i : ℕ) → i < length text → ((k : ℕ) → k < i → ¬ ((get_or text k 0 == 10) ≡ true)) → (get_or text i 0 == 10) ≡ true → lines_of text ≡ take i text ∷ lines_of (drop (i + 1) text)
lines_of-cut text i lt h e =
    let feed : get_or text i 0 ≡ 10 = grind (arith, nat_tests) in
    ap lines_of (sym (take-append-drop i text) ∙ ap (λ r. take i text ++ r) (drop_more text i 0 lt ∙ ap (λ b. b ∷ drop (i + 1) text) feed))
    ∙ lines_of-line (take i text) (drop (i + 1) text) (none_before text i h)

-- and is one line where it has none
pub lines_of-whole : (text : List ℕ) → ((k : ℕ) → k < length text → ¬ ((get_or text k 0 == 10) ≡ true)) → lines_of text ≡ text ∷ []
lines_of-whole text h =
    let all : take (length text) text ≡ text = take_all _ _ (omega arith) in
    lines_of-last text (ap (list_all (λ b. not (b == 10))) (sym all) ∙ none_before text (length text) h)

-- a line is cut behind its blanks
pub words_of-blanks : (line : List ℕ) (i : ℕ) → i < length line → is_blank (get_or line i 0) ≡ true → words_of (drop (i + 1) line) ≡ words_of (drop i line)
words_of-blanks line i lt h = sym (ap words_of (drop_more line i 0 lt) ∙ words_of-blank (get_or line i 0) (drop (i + 1) line) h)

-- neither blank nor byte of a word: a semicolon
semicolon : (b : ℕ) → is_blank b ≡ false → is_word_byte b ≡ false → (b == 59) ≡ true
semicolon b blank word = grind (arith, nat_tests)

pub words_of-end : (line : List ℕ) → starts_with is_blank line ≡ false → starts_with is_word_byte line ≡ false → words_of line ≡ []
words_of-end [] blank word = words_of-nil
words_of-end (b ∷ bs) blank word =
    words_of-cons b bs ∙ ap (λ k. if k then [] else (if is_blank b then words_of bs else (if starts_with is_word_byte bs then onto b (words_of bs) else (b ∷ []) ∷ words_of bs))) (semicolon b blank word)

-- and behind its first word
pub words_of-cut : (line : List ℕ) (n : ℕ) → 0 < length (take n line) → IsTrue (list_all is_word_byte (take n line)) → starts_with is_word_byte (drop n line) ≡ false → words_of line ≡ take n line ∷ words_of (drop n line)
words_of-cut line n some word other =
    ap words_of (sym (take-append-drop n line)) ∙ words_of-word (take n line) (drop n line) some word other
