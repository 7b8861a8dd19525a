-- Each operator and each word is read from its mark alone.
use Rattle.std.proofs.Common.{◌≡◌, Option, Some, None, refl, sym, ap, ◌∙◌}
use Rattle.c_type.specs.declared.operator.BinOp.{BinOp}
use Rattle.c_tok.specs.declared.mark.Mark.{Mark}
use Rattle.c_tok.specs.declared.mark.Mark.TheVariants as m
use Rattle.c_tok.specs.declared.token.CTokKind.{CTokKind}
use Rattle.c_tok.specs.declared.token.CTokKind.TheVariants as c
use Rattle.c_tree.specs.declared.operator.Access.{Access}
use Rattle.c_tree.specs.declared.operator.Infix.{Infix}
use Rattle.c_tree.specs.declared.operator.PointerWord.{PointerWord}
use Rattle.c_tree.specs.declared.operator.RecordKind.{RecordKind}
use Rattle.c_tree.specs.declared.operator.SpecWord.{SpecWord}
use Rattle.c_tree.specs.declared.operator.Step.{Step}
use Rattle.c_tree.specs.declared.operator.UnaryOp.{UnaryOp}
use Rattle.c_decl.specs.declared.kind.Control.{Control}
use Rattle.c_decl.specs.declared.kind.Control.TheVariants as control
use Rattle.c_decl.specs.declared.kind.Jump.{Jump}
use Rattle.c_decl.specs.declared.kind.Jump.TheVariants as jump
use Rattle.c_decl.specs.Marks.{infix_of, assign_of, unary_of, step_of, access_of, word_of, record_of, pointer_of, control_of, jump_of}
use Rattle.c_decl.specs.Spelled.{mark_of_infix, mark_of_assign, mark_of_unary, mark_of_step, mark_of_access, mark_of_word, mark_of_record, mark_of_pointer}

abbrev pub mark_of_control : Control → Mark
mark_of_control control.Switch = m.Switch
mark_of_control control.While = m.While

abbrev pub mark_of_jump : Jump → Mark
mark_of_jump jump.Continue = m.Continue
mark_of_jump jump.Break = m.Break

abbrev back : {A : Type 0} → (A → Mark) → Option A → CTokKind → CTokKind
back mark_of None o = o
back mark_of (Some x) o = c.Mark (mark_of x)

read_from : {A : Type 0} {f : Option A} {o : CTokKind} {x : A} (mark_of : A → Mark) → back mark_of f o ≡ o → f ≡ Some x → o ≡ c.Mark (mark_of x)
read_from {o = o} mark_of e is = sym e ∙ ap (λ z. back mark_of z o) is

infix_back : (o : CTokKind) → back mark_of_infix (infix_of (Some o)) o ≡ o
infix_back (c.Mark m.Auto) = refl
infix_back _ = refl

pub infix_is : {o : CTokKind} {x : Infix} → infix_of (Some o) ≡ Some x → o ≡ c.Mark (mark_of_infix x)
infix_is {o = o} is = read_from mark_of_infix (infix_back o) is

assign_back : (o : CTokKind) → back mark_of_assign (assign_of (Some o)) o ≡ o
assign_back (c.Mark m.Auto) = refl
assign_back _ = refl

pub assign_is : {o : CTokKind} {x : Option BinOp} → assign_of (Some o) ≡ Some x → o ≡ c.Mark (mark_of_assign x)
assign_is {o = o} is = read_from mark_of_assign (assign_back o) is

unary_back : (o : CTokKind) → back mark_of_unary (unary_of (Some o)) o ≡ o
unary_back (c.Mark m.Auto) = refl
unary_back _ = refl

pub unary_is : {o : CTokKind} {x : UnaryOp} → unary_of (Some o) ≡ Some x → o ≡ c.Mark (mark_of_unary x)
unary_is {o = o} is = read_from mark_of_unary (unary_back o) is

step_back : (o : CTokKind) → back mark_of_step (step_of (Some o)) o ≡ o
step_back (c.Mark m.Auto) = refl
step_back _ = refl

pub step_is : {o : CTokKind} {x : Step} → step_of (Some o) ≡ Some x → o ≡ c.Mark (mark_of_step x)
step_is {o = o} is = read_from mark_of_step (step_back o) is

access_back : (o : CTokKind) → back mark_of_access (access_of (Some o)) o ≡ o
access_back (c.Mark m.Auto) = refl
access_back _ = refl

pub access_is : {o : CTokKind} {x : Access} → access_of (Some o) ≡ Some x → o ≡ c.Mark (mark_of_access x)
access_is {o = o} is = read_from mark_of_access (access_back o) is

word_back : (o : CTokKind) → back mark_of_word (word_of (Some o)) o ≡ o
word_back (c.Mark m.Auto) = refl
word_back _ = refl

pub word_is : {o : CTokKind} {x : SpecWord} → word_of (Some o) ≡ Some x → o ≡ c.Mark (mark_of_word x)
word_is {o = o} is = read_from mark_of_word (word_back o) is

record_back : (o : CTokKind) → back mark_of_record (record_of (Some o)) o ≡ o
record_back (c.Mark m.Auto) = refl
record_back _ = refl

pub record_is : {o : CTokKind} {x : RecordKind} → record_of (Some o) ≡ Some x → o ≡ c.Mark (mark_of_record x)
record_is {o = o} is = read_from mark_of_record (record_back o) is

pointer_back : (o : CTokKind) → back mark_of_pointer (pointer_of (Some o)) o ≡ o
pointer_back (c.Mark m.Auto) = refl
pointer_back _ = refl

pub pointer_is : {o : CTokKind} {x : PointerWord} → pointer_of (Some o) ≡ Some x → o ≡ c.Mark (mark_of_pointer x)
pointer_is {o = o} is = read_from mark_of_pointer (pointer_back o) is

control_back : (o : CTokKind) → back mark_of_control (control_of (Some o)) o ≡ o
control_back (c.Mark m.Auto) = refl
control_back _ = refl

pub control_is : {o : CTokKind} {x : Control} → control_of (Some o) ≡ Some x → o ≡ c.Mark (mark_of_control x)
control_is {o = o} is = read_from mark_of_control (control_back o) is

jump_back : (o : CTokKind) → back mark_of_jump (jump_of (Some o)) o ≡ o
jump_back (c.Mark m.Auto) = refl
jump_back _ = refl

pub jump_is : {o : CTokKind} {x : Jump} → jump_of (Some o) ≡ Some x → o ≡ c.Mark (mark_of_jump x)
jump_is {o = o} is = read_from mark_of_jump (jump_back o) is
