use Rattle.std.proofs.Common.{◌≡◌, ◌∙◌, ◌<◌, ◌≤◌, ◌++◌, ◌∷◌, [], List, ℕ, length, drop, get_or, ◌+◌, map, string_bytes, Ok, sym, ap, subst, arith, length-append}
use Rattle.std.specs.Prelude.{IfSome}
use Rattle.std.proofs.lemmas.List.{get_or-map, length-map, map-append}
use Rattle.asm_link.specs.Shown.{texts_of}
use Rattle.pp_dir.specs.Endings.{keeper_of}
use Rattle.qv_tool.specs.Gathered.{gathered}
use Rattle.qv_tool.specs.Work.{SaysUnread}
use Rattle.qv_tool.proofs.Gathering.{gather_done, gather_more, gather_refused, with_texts}
use Rattle.qv_tool.proofs.Told.{read_stays}
use Rattle.qv_tool.proofs.gather.gather.Goals as goal

pub returns-in-Err-clause-gathers : goal.returns-in-Err-clause-gathers
returns-in-Err-clause-gathers g c =
    let lt : c.loop-name.name-index < length (map string_bytes c.args.names.now) = omega (arith, c.loop-name-test.true, length-map c.args.names.now string_bytes) in
    let here : c.as_str.result.now ≡ get_or (map string_bytes c.args.names.now) c.loop-name.name-index [] = c.as_str.ensures.value ∙ ap string_bytes c.name-item.is ∙ sym (get_or-map string_bytes c.args.names.now c.loop-name.name-index c.name-item.result [] c.loop-name-test.true) in
    let N : List ℕ → Type 0 = λ name. SaysUnread name c.in_ok-report-in-Err.report c.in-Err.fault in
    gather_refused (map string_bytes c.args.names.now) c.loop-name.name-index lt (texts_of c.loop-name.texts.items) c.as_str.result.now here (keeper_of g.F.Files c.args.files.now) (keeper_of g.F.Files c.loop-name.files) (keeper_of g.F.Files c.read.new.self) c.in_ok-report-in-Err.report
    c.loop-name.invariant.same c.loop-name.invariant.reads c.loop-name.invariant.texts c.in-Err.fault c.in-Err.ensures.told c.in-Err.ensures.named c.in-Err.ensures.cause (subst N (c.as_str-in-Err.ensures.value ∙ sym c.as_str.ensures.value) c.in_ok-report-in-Err.ensures)

pub loop-name-preserved : goal.loop-name-preserved
loop-name-preserved g c =
    let lt : c.loop-name.name-index < length (map string_bytes c.args.names.now) = omega (arith, c.loop-name-test.true, length-map c.args.names.now string_bytes) in
    let here : c.as_str.result.now ≡ get_or (map string_bytes c.args.names.now) c.loop-name.name-index [] = c.as_str.ensures.value ∙ ap string_bytes c.name-item.is ∙ sym (get_or-map string_bytes c.args.names.now c.loop-name.name-index c.name-item.result [] c.loop-name-test.true) in
    let more : texts_of c.push.new.self.items ≡ texts_of c.loop-name.texts.items ++ c.in-Ok.text.items ∷ [] = ap texts_of c.in_ok-push.ensures.items ∙ map-append (λ f. f.text.items) c.loop-name.texts.items _ in
    let T : List (List ℕ) → Type 0 = λ ts. IfSome (g.F.Files.held c.args.files.now) (λ held. gathered held (map string_bytes c.args.names.now) ≡ with_texts ts (gathered held (drop (c.loop-name.name-index + 1) (map string_bytes c.args.names.now)))) in
    record {
      same = read_stays _ _ c.as_str.result.now (Ok c.in-Ok.text) c.in-Ok.ensures.told ∙ c.loop-name.invariant.same;
      texts = subst T (sym more) (gather_more (map string_bytes c.args.names.now) c.loop-name.name-index lt (texts_of c.loop-name.texts.items) c.as_str.result.now here _ _ _ c.in-Ok.text c.loop-name.invariant.same c.loop-name.invariant.texts c.in-Ok.ensures.told);
      count = ap length c.in_ok-push.ensures.items ∙ length-append c.loop-name.texts.items _ ∙ ap (λ n. n + 1) c.loop-name.invariant.count;
      reads = omega (arith, c.in-Ok.ensures.later, c.loop-name.invariant.reads);
      writes = c.in-Ok.ensures.writes_stay ∙ c.loop-name.invariant.writes;
    }

pub returns-clause-gathers : goal.returns-clause-gathers
returns-clause-gathers g c =
    let le : length (map string_bytes c.args.names.now) ≤ c.loop-name.name-index = omega (arith, c.loop-name-test.false, length-map c.args.names.now string_bytes) in
    gather_done _ (map string_bytes c.args.names.now) (texts_of c.loop-name.texts.items) c.loop-name.name-index le c.loop-name.invariant.texts
