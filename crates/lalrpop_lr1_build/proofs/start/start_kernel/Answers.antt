use Rattle.std.proofs.Common.{◌≡◌, ◌∙◌, ◌<◌, Some, ap, arith, get_or, length, slice_get, sym}
use Rattle.std.specs.Str.{bytes_eq}
use Rattle.lalrpop_lr1_first.specs.NumberedGrammars.{table_productions}
use Rattle.lalrpop_lr1_first.specs.declared.place.NumberedRule.{NumberedRule}
use Rattle.lalrpop_lr1_first.proofs.ListLemmas.{get_slice, read_slice}
use Rattle.lalrpop_lr1_first.proofs.TableLemmas.{get_mapped, long_map}
use Rattle.lalrpop_lr1_build.proofs.EntryLemmas.{start_skipped, start_taken}
use Rattle.lalrpop_lr1_build.proofs.start.start_kernel.Goals.{else-eq, then-eq+in_ok-try_clone+in_ok-push}
use Rattle.lalrpop_lr1_build.proofs.start.start_kernel.Goals as goal

pub loop-number-preserved : goal.loop-number-preserved
loop-number-preserved g c =
    let table = c.args.table.now in
    let start = c.args.start.now in
    let n = c.loop-number.number in
    let found = c.index-productions-number.result in
    let none : NumberedRule = record { left = 0; start = 0 } in
    let own = c.productions-productions.result.now in
    let listed : slice_get (table_productions table) n ≡ Some found.now =
    get_mapped (λ b. b.now) table.productions.items n found (ap (λ l. slice_get l n) (sym c.productions-productions.ensures)
    ∙ get_slice own n found c.loop-number-test.true c.index-productions-number.is) in
    let long : length (table_productions table) ≡ length table.rules.items = sym c.requires.laid.count in
    let within : n < length c.rules-rules.result.now =
    omega (
      arith,
      c.loop-number-test.true,
      ap length c.productions-productions.ensures,
      long_map (λ b. b.now)
          table.productions.items,
      ap length c.rules-rules.ensures,
      c.requires.laid.count,
    ) in
    let ruled = read_slice c.rules-rules.result.now table.rules.items n none within c.rules-rules.ensures in
    let rule = get_or c.rules-rules.result.now n none in
    let test : bytes_eq found.now.nonterminal.0 start.0 ≡ c.eq.result =
    ap (λ b. bytes_eq b.now.nonterminal.0 start.0) c.index-productions-number.is ∙ sym c.eq.ensures in
    elim c.if-eq.branch [
      | then-eq+in_ok-try_clone+in_ok-push w ↦
          w.items-is
          ∙ start_taken start c.args.lookahead.now (table_productions table) table.rules.items n found.now rule listed ruled long
          (test ∙ w.if-eq.true) c.loop-number.items w.push.new.self w.in_ok-try_clone.field-0 c.loop-number.invariant
          w.in_ok-try_clone.ensures w.in_ok-push.ensures.ok
      | else-eq w ↦
          w.items-is
          ∙ start_skipped start c.args.lookahead.now (table_productions table) table.rules.items n found.now rule listed ruled long
          (test ∙ w.if-eq.false) c.loop-number.items c.loop-number.invariant
    ]
