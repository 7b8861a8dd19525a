-- What reading a unit's tokens answers.
use Rattle.std.proofs.Common.{◌≡◌, ◌≢◌, ℕ, List, Option, None, Result, Ok, Err, refl, sym, ap, ◌∙◌}
use Rattle.pp_tok.specs.declared.token.PpTok.{PpTok}
use Rattle.c_tok.specs.declared.fault.TokFault.{TokFault}
use Rattle.c_tok.specs.declared.fault.TokFault.TheVariants as tok
use Rattle.c_tok.specs.declared.token.CTok.{CTok}
use Rattle.c_tok.specs.Tokens.{c_tokens}
use Rattle.c_tree.specs.declared.stmt.Unit.{Unit as UnitTree}
use Rattle.c_decl.specs.declared.fault.ParseFault.{ParseFault}
use Rattle.c_decl.specs.declared.fault.ParseFault.TheVariants as parse
use Rattle.c_decl.specs.Parsed.{unit_read}
use Rattle.qcc_front.specs.declared.fault.CompileStop.{CompileStop}
use Rattle.qcc_front.specs.declared.fault.CompileStop.TheVariants as stop
use Rattle.qcc_front.specs.Compiled.{failed_in}
use Rattle.qcc_front.specs.Tree.{Gives, stop_of_parse, stop_of_token, tokens_or, tree_of, tree_or}

module _ (names : List (List ℕ)) (toks : List PpTok) where
  pub has_tree : (ts : List CTok) (tree : UnitTree) → c_tokens toks ≡ Ok ts → unit_read ts ≡ Ok tree → tree_of names toks ≡ Ok tree
  unfolding tree_of
  has_tree ts tree tokens reads = ap (tokens_or names) tokens ∙ ap (tree_or names) reads

  pub told_token : (fault : TokFault) (told : CompileStop) → (fault ≢ tok.NoMemory → c_tokens toks ≡ Err fault) → told ≡ stop_of_token names fault → told ≢ stop.NoMemory → tree_of names toks ≡ Err told
  unfolding tree_of
  told_token fault told tokens is some =
      ap (tokens_or names) (tokens (λ e. some (is ∙ ap (stop_of_token names) e))) ∙ ap Err (sym is)

  pub told_parse : (ts : List CTok) (fault : ParseFault) (told : CompileStop) → c_tokens toks ≡ Ok ts → (fault ≢ parse.NoMemory → unit_read ts ≡ Err fault) → told ≡ stop_of_parse names fault → told ≢ stop.NoMemory → tree_of names toks ≡ Err told
  unfolding tree_of
  told_parse ts fault told tokens reads is some =
      ap (tokens_or names) tokens ∙ ap (tree_or names) (reads (λ e. some (is ∙ ap (stop_of_parse names) e))) ∙ ap Err (sym is)

-- ---- no file is told as unread

unread : Result UnitTree CompileStop → Option (List ℕ)
unread (Ok tree) = None
unread (Err told) = failed_in (Err told)

parse_read : (names : List (List ℕ)) (r : Result UnitTree ParseFault) → unread (tree_or names r) ≡ None
unfolding unread
parse_read names (Ok tree) = refl
parse_read names (Err (parse.FloatType place)) = refl
parse_read names (Err (parse.Syntax place)) = refl
parse_read names (Err (parse.LeftOut kind place)) = refl
parse_read names (Err parse.NoMemory) = refl

tokens_read : (names : List (List ℕ)) (r : Result (List CTok) TokFault) → unread (tokens_or names r) ≡ None
unfolding unread
tokens_read names (Ok ts) = parse_read names (unit_read ts)
tokens_read names (Err (tok.StrayByte place)) = refl
tokens_read names (Err (tok.OpenQuote place)) = refl
tokens_read names (Err (tok.LeftOut place)) = refl
tokens_read names (Err (tok.BadConstant place)) = refl
tokens_read names (Err (tok.FloatConstant place)) = refl
tokens_read names (Err (tok.ConstantTooLarge place)) = refl
tokens_read names (Err (tok.NameTooLong place)) = refl
tokens_read names (Err tok.NoMemory) = refl

tree_read : (names : List (List ℕ)) (toks : List PpTok) → unread (tree_of names toks) ≡ None
unfolding tree_of
tree_read names toks = tokens_read names (c_tokens toks)

pub all_read : (names : List (List ℕ)) (toks : List PpTok) (told : CompileStop) → Gives (tree_of names toks) (Err told) → failed_in (Err told) ≡ None
unfolding unread
all_read names toks (stop.Source fault) given = refl
all_read names toks (stop.Absent name) given = refl
all_read names toks (stop.TooLong name) given = refl
all_read names toks (stop.ReadFault name) given = ap unread (sym (given (λ e. absurd cc))) ∙ tree_read names toks
all_read names toks stop.NotYet given = refl
all_read names toks stop.NoMemory given = refl
