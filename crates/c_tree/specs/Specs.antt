-- What specifiers say.
use Rattle.std.specs.Prelude.{Bool, true, false, ◌||◌, [], ◌∷◌, ◌++◌}
use Rattle.c_tree.specs.declared.at.At.{At}
use Rattle.c_tree.specs.declared.operator.SpecWord.{SpecWord}
use Rattle.c_tree.specs.declared.operator.SpecWord.TheVariants as w
use Rattle.c_tree.specs.declared.expr.Declarator.{Declarator}
use Rattle.c_tree.specs.declared.expr.Enumerator.{Enumerator}
use Rattle.c_tree.specs.declared.expr.Expr.{Expr}
use Rattle.c_tree.specs.declared.expr.Member.{Member}
use Rattle.c_tree.specs.declared.expr.Param.{Param}
use Rattle.c_tree.specs.declared.expr.Slot.{Slot}
use Rattle.c_tree.specs.declared.expr.Spec.{Spec, Spec-F, out-Spec}
use Rattle.c_tree.specs.declared.expr.Specs.{Specs}
use Rattle.c_tree.specs.declared.expr.TypeName.{TypeName}
use Rattle.c_tree.specs.Begins.{spec_at}

-- storage classes, `typedef` among them (ANSI C X3.159-1989, 3.5.1)
abbrev pub is_storage : SpecWord → Bool
is_storage w.Typedef = true
is_storage w.Extern = true
is_storage w.Static = true
is_storage w.Auto = true
is_storage w.Register = true
is_storage _ = false

abbrev pub is_qualifier : SpecWord → Bool
is_qualifier w.Const = true
is_qualifier w.Volatile = true
is_qualifier _ = false

abbrev pub names_type : SpecWord → Bool
names_type w.Void = true
names_type w.Char = true
names_type w.Short = true
names_type w.Int = true
names_type w.Long = true
names_type w.Signed = true
names_type w.Unsigned = true
names_type _ = false

abbrev pub is_typedef_word : SpecWord → Bool
is_typedef_word w.Typedef = true
is_typedef_word _ = false

abbrev pub spec_names_type : Spec-F Declarator Expr Slot Spec Enumerator Member Param Specs TypeName → Bool
spec_names_type (Spec-F.Word _ word) = names_type word
spec_names_type _ = true

abbrev pub spec_is_typedef : Spec-F Declarator Expr Slot Spec Enumerator Member Param Specs TypeName → Bool
spec_is_typedef (Spec-F.Word _ word) = is_typedef_word word
spec_is_typedef _ = false

-- it names a type
unfoldable pub is_type_spec : Spec → Bool
is_type_spec x = spec_names_type (out-Spec x)

-- it is `typedef`
unfoldable pub is_typedef_spec : Spec → Bool
is_typedef_spec x = spec_is_typedef (out-Spec x)

abbrev pub no_specs : At → Specs
no_specs at = record { at = at; items = []; is_typedef = false; is_typed = false }

abbrev pub one_spec : Spec → Specs
one_spec x = record { at = spec_at x; items = x ∷ []; is_typedef = is_typedef_spec x; is_typed = is_type_spec x }

abbrev pub with_spec : Specs → Spec → Specs
with_spec xs x = record { at = xs.at; items = xs.items ++ x ∷ []; is_typedef = xs.is_typedef || is_typedef_spec x; is_typed = xs.is_typed || is_type_spec x }
