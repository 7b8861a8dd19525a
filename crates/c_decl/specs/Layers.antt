-- One layer of the rules.
use Rattle.c_tree.specs.declared.declaring.Declaring.{Declaring}
use Rattle.c_tree.specs.declared.height.Heights.{Heights}
use Rattle.c_tree.specs.declared.height.Tall.{Tall}
use Rattle.c_decl.specs.declared.kind.DeclPart.{DeclPart}
use Rattle.c_decl.specs.declared.kind.DeclPart.TheVariants as decl
use Rattle.c_decl.specs.declared.kind.Mode.{Mode}
use Rattle.c_decl.specs.Input.{Parser}
use Rattle.c_decl.specs.Declarators.{declarator_rule, direct_rule}
use Rattle.c_decl.specs.Nests.{parts_of}

abbrev pub decl_rule_of : Mode → Heights → DeclPart → Parser (Tall Declaring)
decl_rule_of m room (decl.Declarator kind typed) = declarator_rule m (parts_of m room) room kind typed
decl_rule_of m room (decl.Direct kind typed) = direct_rule m (parts_of m room) room kind typed
