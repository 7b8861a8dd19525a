use Rattle.std.proofs.Common.{rules, ◌≡◌, Some, Ok, Err, map, string_bytes}
use Rattle.qv_outside.specs.FileMap.{content}
use Rattle.pp_dir.specs.Preprocessed.{preprocessed}
use Rattle.pp_dir.specs.Units.{definition_of}
use Rattle.qcc_front.specs.FirstForm.{spellings, unit_of}
use Rattle.qcc_front.specs.Tree.{Gives, tree_of}
use Rattle.qcc_front.specs.Unit.{sum_of}
use Rattle.qcc_front.proofs.Compiling.{keeps_result, told_first, told_result}
use Rattle.qcc_front.proofs.compile.compile_unit.Goals as goal

pub returns-in_err-_tree-clause-told : goal.returns-in_err-_tree-clause-told
returns-in_err-_tree-clause-told g c =
    let e : c.from_residual.result ≡ Err c.in_err-_tree.field-0.0 = search rules in
    let told : Gives (tree_of c.in-Ok.read.names c.in-Ok.read.toks) (Err c.in_err-_tree.field-0.0) = λ some. let is : tree_of c.as_slice.result.now c.as_slice-2.result.now ≡ Err c.in_err-_tree.field-0.0 = c.in_err-_tree.ensures some in search rules in
    told_result (λ m. preprocessed (content m) (map string_bytes c.args.dirs.now) (map definition_of c.args.defs.now) c.args.name.now) (g.F.Files.held c.args.files.now) c.in-Ok.read c.in_err-_tree.field-0.0 c.from_residual.result
    e c.in-Ok.ensures.told told

pub returns-in_err-_tree-clause-keeps : goal.returns-in_err-_tree-clause-keeps
returns-in_err-_tree-clause-keeps g c =
    let e : c.from_residual.result ≡ Err c.in_err-_tree.field-0.0 = search rules in
    let told : Gives (tree_of c.in-Ok.read.names c.in-Ok.read.toks) (Err c.in_err-_tree.field-0.0) = λ some. let is : tree_of c.as_slice.result.now c.as_slice-2.result.now ≡ Err c.in_err-_tree.field-0.0 = c.in_err-_tree.ensures some in search rules in
    keeps_result _ _ c.in-Ok.read c.in_err-_tree.field-0.0 c.from_residual.result e c.in-Ok.ensures.keeps told

pub returns-clause-told : goal.returns-clause-told
returns-clause-told g c =
    let is : Some (sum_of c.in-Some.unit) ≡ unit_of (spellings c.in-Ok.read.toks) = search rules in
    let has : tree_of c.in-Ok.read.names c.in-Ok.read.toks ≡ Ok c.in_ok-_tree._tree = search rules in
    told_first (λ m. preprocessed (content m) (map string_bytes c.args.dirs.now) (map definition_of c.args.defs.now) c.args.name.now) (g.F.Files.held c.args.files.now) c.in-Ok.read c.in_ok-_tree._tree (sum_of c.in-Some.unit) (record { texts = c.in_ok-texts.texts })
    c.in-Ok.ensures.told has is c.in_ok-texts.ensures.texts
