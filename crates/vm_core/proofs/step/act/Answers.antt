use Rattle.std.proofs.Common.{rules, ◌≡◌, ◌∙◌, ap, length, ◌-◌, ◌/◌, ◌%◌, ◌^◌, nat_lt, nat_le, ◌==◌, not, bit_and, bit_or, bit_xor}
use Rattle.qv_base.specs.Word.{plus, minus, times, negated, shifted_left, shifted_right, shifted_signed, is_less_signed, quotient_signed, remainder_signed, sign_extended_8, sign_extended_16}
use Rattle.masked_mem.specs.Memory.{load1, load2, load4, store1, store2, store4}
use Rattle.masked_mem.proofs.Lengths.{length-store1, length-store2, length-store4}
use Rattle.vm_core.proofs.Rows.{along_call, along_op, along_either}
use Rattle.vm_core.proofs.step.act.Goals as goal

pub returns-in-Enter-clause-leads : goal.returns-in-Enter-clause-leads
returns-in-Enter-clause-leads c = λ table. along_op table _ _ _ _ _ c.in-Enter.is (c.enter.ensures c.args.words.now)

pub returns-in-Call-clause-leads : goal.returns-in-Call-clause-leads
returns-in-Call-clause-leads c = λ table. along_call table _ _ _ _ _ c.in-Call.is (c.call.ensures.leads table)

pub returns-in-Push-clause-leads : goal.returns-in-Push-clause-leads
returns-in-Push-clause-leads c = λ table. along_op table _ _ _ _ _ c.in-Push.is (c.push.ensures c.args.block.now)

pub returns-in-Pop-clause-leads : goal.returns-in-Pop-clause-leads
returns-in-Pop-clause-leads c = λ table. along_op table _ _ _ _ _ c.in-Pop.is (c.pop.ensures c.args.block.now)

pub returns-in-Const-clause-leads : goal.returns-in-Const-clause-leads
returns-in-Const-clause-leads c = λ table. along_op table _ _ _ _ _ c.in-Const.is (c.push-in-Const.ensures c.args.block.now)

pub returns-in-Local-clause-leads : goal.returns-in-Local-clause-leads
returns-in-Local-clause-leads c = λ table. along_op table _ _ _ _ _ c.in-Local.is (c.push_local.ensures c.args.block.now)

pub returns-in-Jump-clause-leads : goal.returns-in-Jump-clause-leads
returns-in-Jump-clause-leads c = λ table. along_op table _ _ _ _ _ c.in-Jump.is (c.jump.ensures c.args.block.now)

pub returns-in-Eq-clause-leads : goal.returns-in-Eq-clause-leads
returns-in-Eq-clause-leads c = λ table. along_op table _ _ _ _ _ c.in-Eq.is (c.branch-words.ensures (λ a b. a == b) (λ s t v s_word t_word computed. search rules) c.args.block.now)

pub returns-in-Ne-clause-leads : goal.returns-in-Ne-clause-leads
returns-in-Ne-clause-leads c = λ table. along_op table _ _ _ _ _ c.in-Ne.is (c.branch-words-in-Ne.ensures (λ a b. not (a == b)) (λ s t v s_word t_word computed. search rules) c.args.block.now)

pub returns-in-Lti-clause-leads : goal.returns-in-Lti-clause-leads
returns-in-Lti-clause-leads c = λ table. along_op table _ _ _ _ _ c.in-Lti.is (c.branch-words-in-Lti.ensures is_less_signed (λ s t v s_word t_word computed. search rules) c.args.block.now)

pub returns-in-Lei-clause-leads : goal.returns-in-Lei-clause-leads
returns-in-Lei-clause-leads c = λ table. along_op table _ _ _ _ _ c.in-Lei.is (c.branch-words-in-Lei.ensures (λ a b. not (is_less_signed b a)) (λ s t v s_word t_word computed. search rules) c.args.block.now)

pub returns-in-Gti-clause-leads : goal.returns-in-Gti-clause-leads
returns-in-Gti-clause-leads c = λ table. along_op table _ _ _ _ _ c.in-Gti.is (c.branch-words-in-Gti.ensures (λ a b. is_less_signed b a) (λ s t v s_word t_word computed. search rules) c.args.block.now)

pub returns-in-Gei-clause-leads : goal.returns-in-Gei-clause-leads
returns-in-Gei-clause-leads c = λ table. along_op table _ _ _ _ _ c.in-Gei.is (c.branch-words-in-Gei.ensures (λ a b. not (is_less_signed a b)) (λ s t v s_word t_word computed. search rules) c.args.block.now)

pub returns-in-Ltu-clause-leads : goal.returns-in-Ltu-clause-leads
returns-in-Ltu-clause-leads c = λ table. along_op table _ _ _ _ _ c.in-Ltu.is (c.branch-words-in-Ltu.ensures nat_lt (λ s t v s_word t_word computed. search rules) c.args.block.now)

pub returns-in-Leu-clause-leads : goal.returns-in-Leu-clause-leads
returns-in-Leu-clause-leads c = λ table. along_op table _ _ _ _ _ c.in-Leu.is (c.branch-words-in-Leu.ensures nat_le (λ s t v s_word t_word computed. search rules) c.args.block.now)

pub returns-in-Gtu-clause-leads : goal.returns-in-Gtu-clause-leads
returns-in-Gtu-clause-leads c = λ table. along_op table _ _ _ _ _ c.in-Gtu.is (c.branch-words-in-Gtu.ensures (λ a b. nat_lt b a) (λ s t v s_word t_word computed. search rules) c.args.block.now)

pub returns-in-Geu-clause-leads : goal.returns-in-Geu-clause-leads
returns-in-Geu-clause-leads c = λ table. along_op table _ _ _ _ _ c.in-Geu.is (c.branch-words-in-Geu.ensures (λ a b. nat_le b a) (λ s t v s_word t_word computed. search rules) c.args.block.now)

pub returns-in-Load1-clause-leads : goal.returns-in-Load1-clause-leads
returns-in-Load1-clause-leads c = λ table. along_op table _ _ _ _ _ c.in-Load1.is (c.on_top.ensures (load1 c.args.block.now) (λ t v t_word computed. search rules) c.args.block.now)

pub returns-in-Load2-clause-leads : goal.returns-in-Load2-clause-leads
returns-in-Load2-clause-leads c = λ table. along_op table _ _ _ _ _ c.in-Load2.is (c.on_top-in-Load2.ensures (load2 c.args.block.now) (λ t v t_word computed. search rules) c.args.block.now)

pub returns-in-Load4-clause-leads : goal.returns-in-Load4-clause-leads
returns-in-Load4-clause-leads c = λ table. along_op table _ _ _ _ _ c.in-Load4.is (c.on_top-in-Load4.ensures (load4 c.args.block.now) (λ t v t_word computed. search rules) c.args.block.now)

pub returns-in-Store1-clause-leads : goal.returns-in-Store1-clause-leads
returns-in-Store1-clause-leads c = λ table. along_op table _ _ _ _ _ c.in-Store1.is (c.store.ensures.step store1 (λ old new at w at_word w_word computed. search rules))

pub returns-in-Store2-clause-leads : goal.returns-in-Store2-clause-leads
returns-in-Store2-clause-leads c = λ table. along_op table _ _ _ _ _ c.in-Store2.is (c.store-in-Store2.ensures.step store2 (λ old new at w at_word w_word computed. search rules))

pub returns-in-Store4-clause-leads : goal.returns-in-Store4-clause-leads
returns-in-Store4-clause-leads c = λ table. along_op table _ _ _ _ _ c.in-Store4.is (c.store-in-Store4.ensures.step store4 (λ old new at w at_word w_word computed. search rules))

pub returns-in-Sex8-clause-leads : goal.returns-in-Sex8-clause-leads
returns-in-Sex8-clause-leads c = λ table. along_op table _ _ _ _ _ c.in-Sex8.is (c.on_top-in-Sex8.ensures sign_extended_8 (λ t v t_word computed. search rules) c.args.block.now)

pub returns-in-Sex16-clause-leads : goal.returns-in-Sex16-clause-leads
returns-in-Sex16-clause-leads c = λ table. along_op table _ _ _ _ _ c.in-Sex16.is (c.on_top-in-Sex16.ensures sign_extended_16 (λ t v t_word computed. search rules) c.args.block.now)

pub returns-in-Negi-clause-leads : goal.returns-in-Negi-clause-leads
returns-in-Negi-clause-leads c = λ table. along_op table _ _ _ _ _ c.in-Negi.is (c.on_top-in-Negi.ensures negated (λ t v t_word computed. search rules) c.args.block.now)

pub returns-in-Add-clause-leads : goal.returns-in-Add-clause-leads
returns-in-Add-clause-leads c = λ table. along_op table _ _ _ _ _ c.in-Add.is (c.on_two.ensures plus (λ s t v s_word t_word computed. search rules) c.args.block.now)

pub returns-in-Sub-clause-leads : goal.returns-in-Sub-clause-leads
returns-in-Sub-clause-leads c = λ table. along_op table _ _ _ _ _ c.in-Sub.is (c.on_two-in-Sub.ensures minus (λ s t v s_word t_word computed. search rules) c.args.block.now)

pub returns-in-Divi-clause-leads : goal.returns-in-Divi-clause-leads
returns-in-Divi-clause-leads c = λ table. along_op table _ _ _ _ _ c.in-Divi.is (c.divided_signed.ensures quotient_signed (λ s t v s_word t_word computed. search rules) c.args.block.now)

pub returns-in-Divu-clause-leads : goal.returns-in-Divu-clause-leads
returns-in-Divu-clause-leads c = λ table. along_op table _ _ _ _ _ c.in-Divu.is (c.divided.ensures (λ a b. a / b) (λ s t v s_word t_word computed. search rules) c.args.block.now)

pub returns-in-Modi-clause-leads : goal.returns-in-Modi-clause-leads
returns-in-Modi-clause-leads c = λ table. along_op table _ _ _ _ _ c.in-Modi.is (c.divided_signed-in-Modi.ensures remainder_signed (λ s t v s_word t_word computed. search rules) c.args.block.now)

pub returns-in-Modu-clause-leads : goal.returns-in-Modu-clause-leads
returns-in-Modu-clause-leads c = λ table. along_op table _ _ _ _ _ c.in-Modu.is (c.divided-in-Modu.ensures (λ a b. a % b) (λ s t v s_word t_word computed. search rules) c.args.block.now)

pub returns-in-Muli-clause-leads : goal.returns-in-Muli-clause-leads
returns-in-Muli-clause-leads c =
    let row = c.on_two-in-Muli.ensures times (λ s t v s_word t_word computed. search rules) c.args.block.now in
    λ table. along_either table _ _ _ _ _ c.in-Muli.is row row

pub returns-in-Band-clause-leads : goal.returns-in-Band-clause-leads
returns-in-Band-clause-leads c = λ table. along_op table _ _ _ _ _ c.in-Band.is (c.on_two-in-Band.ensures bit_and (λ s t v s_word t_word computed. search rules) c.args.block.now)

pub returns-in-Bor-clause-leads : goal.returns-in-Bor-clause-leads
returns-in-Bor-clause-leads c = λ table. along_op table _ _ _ _ _ c.in-Bor.is (c.on_two-in-Bor.ensures bit_or (λ s t v s_word t_word computed. search rules) c.args.block.now)

pub returns-in-Bxor-clause-leads : goal.returns-in-Bxor-clause-leads
returns-in-Bxor-clause-leads c = λ table. along_op table _ _ _ _ _ c.in-Bxor.is (c.on_two-in-Bxor.ensures bit_xor (λ s t v s_word t_word computed. search rules) c.args.block.now)

pub returns-in-Bcom-clause-leads : goal.returns-in-Bcom-clause-leads
returns-in-Bcom-clause-leads c = λ table. along_op table _ _ _ _ _ c.in-Bcom.is (c.on_top-in-Bcom.ensures (λ a. 2 ^ 32 - 1 - a) (λ t v t_word computed. search rules) c.args.block.now)

pub returns-in-Lsh-clause-leads : goal.returns-in-Lsh-clause-leads
returns-in-Lsh-clause-leads c = λ table. along_op table _ _ _ _ _ c.in-Lsh.is (c.on_two-in-Lsh.ensures shifted_left (λ s t v s_word t_word computed. search rules) c.args.block.now)

pub returns-in-Rshi-clause-leads : goal.returns-in-Rshi-clause-leads
returns-in-Rshi-clause-leads c = λ table. along_op table _ _ _ _ _ c.in-Rshi.is (c.on_two-in-Rshi.ensures shifted_signed (λ s t v s_word t_word computed. search rules) c.args.block.now)

pub returns-in-Rshu-clause-leads : goal.returns-in-Rshu-clause-leads
returns-in-Rshu-clause-leads c = λ table. along_op table _ _ _ _ _ c.in-Rshu.is (c.on_two-in-Rshu.ensures shifted_right (λ s t v s_word t_word computed. search rules) c.args.block.now)

pub returns-in-Leave-clause-leads : goal.returns-in-Leave-clause-leads
returns-in-Leave-clause-leads c = λ table. along_op table _ _ _ _ _ c.in-Leave.is c.leave.ensures

pub returns-in-Arg-clause-leads : goal.returns-in-Arg-clause-leads
returns-in-Arg-clause-leads c = λ table. along_op table _ _ _ _ _ c.in-Arg.is c.argument.ensures.step

pub returns-in-BlockCopy-clause-leads : goal.returns-in-BlockCopy-clause-leads
returns-in-BlockCopy-clause-leads c = λ table. along_op table _ _ _ _ _ c.in-BlockCopy.is c.block_copy.ensures.step

pub returns-in-Store1-clause-size : goal.returns-in-Store1-clause-size
returns-in-Store1-clause-size c = c.store.ensures.size (λ old new at w size computed. (let is : new.now ≡ store1 old.now at w = search rules in ap length is ∙ length-store1 old.now at w))

pub returns-in-Store2-clause-size : goal.returns-in-Store2-clause-size
returns-in-Store2-clause-size c = c.store-in-Store2.ensures.size (λ old new at w size computed. (let is : new.now ≡ store2 old.now at w = search rules in ap length is ∙ length-store2 old.now at w size))

pub returns-in-Store4-clause-size : goal.returns-in-Store4-clause-size
returns-in-Store4-clause-size c = c.store-in-Store4.ensures.size (λ old new at w size computed. (let is : new.now ≡ store4 old.now at w = search rules in ap length is ∙ length-store4 old.now at w size))
