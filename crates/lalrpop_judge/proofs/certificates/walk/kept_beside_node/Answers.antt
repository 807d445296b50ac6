use Rattle.std.proofs.Common.{◌≡◌, ◌∙◌, ◌+◌, ◌-◌, ap, arith, length, map, sym}
use Rattle.std.proofs.lemmas.List.{length-map}
use Rattle.lalrpop_lr1_core.specs.Views.{production_symbol_view, production_view}
use Rattle.lalrpop_lr1_first.specs.FirstSetsOf.{IsProductionOf}
use Rattle.lalrpop_judge.proofs.EntryLemmas.{never}
use Rattle.lalrpop_judge.proofs.RootLemmas.{last_few, last_is, last_not_size, last_not_symbols}
use Rattle.lalrpop_judge.proofs.certificates.walk.kept_beside_node.Goals as goal

pub returns-then-roots-symbols : goal.returns-then-roots-symbols
returns-then-roots-symbols c = λ kept k.
    let p = c.args.production.now in
    last_few (IsProductionOf c.args.grammar.now) (production_view p) c.args.size c.args.roots.now kept
    (omega (arith, c.if-roots-symbols.true, ap length c.as_slice-symbols.ensures, length-map p.symbols production_symbol_view)) k

pub returns-then-not-have_symbols : goal.returns-then-not-have_symbols
returns-then-not-have_symbols c = λ kept k.
    let p = c.args.production.now in
    let roots = c.args.roots.now in
    let symbols = c.as_slice-symbols.result.now in
    let place = length roots - length symbols in
    let many : place + length (production_view p).right ≡ length roots =
    omega (arith, c.if-roots-symbols.false, ap length c.as_slice-symbols.ensures, length-map p.symbols production_symbol_view) in
    let side : map production_symbol_view symbols ≡ (production_view p).right =
    ap (map production_symbol_view) c.as_slice-symbols.ensures in
    last_not_symbols (IsProductionOf c.args.grammar.now) (production_view p) c.args.size roots c.split_at.result.1.now place kept many
    c.split_at.ensures.back
    (λ h. never c.have_symbols.result c.if-not-have_symbols.true (c.have_symbols.ensures.1 (h ∙ sym side))) k

pub returns-then-not-is_size_over : goal.returns-then-not-is_size_over
returns-then-not-is_size_over c = λ kept k.
    let p = c.args.production.now in
    let roots = c.args.roots.now in
    let symbols = c.as_slice-symbols.result.now in
    let place = length roots - length symbols in
    let many : place + length (production_view p).right ≡ length roots =
    omega (arith, c.if-roots-symbols.false, ap length c.as_slice-symbols.ensures, length-map p.symbols production_symbol_view) in
    last_not_size (IsProductionOf c.args.grammar.now) (production_view p) c.args.size roots c.split_at.result.1.now place kept many
    c.split_at.ensures.back
    (λ h. never c.is_size_over.result c.if-not-is_size_over.true (c.is_size_over.ensures.1 h)) k

pub returns-then-not-has_production : goal.returns-then-not-has_production
returns-then-not-has_production c = λ kept k.
    never c.has_production.result c.if-not-has_production.true (c.has_production.ensures.1 k.is)

pub returns : goal.returns
returns c =
    let p = c.args.production.now in
    let roots = c.args.roots.now in
    let symbols = c.as_slice-symbols.result.now in
    let place = length roots - length symbols in
    let many : place + length (production_view p).right ≡ length roots =
    omega (arith, c.if-roots-symbols.false, ap length c.as_slice-symbols.ensures, length-map p.symbols production_symbol_view) in
    let side : map production_symbol_view symbols ≡ (production_view p).right =
    ap (map production_symbol_view) c.as_slice-symbols.ensures in
    last_is (IsProductionOf c.args.grammar.now) (production_view p) c.args.size roots c.split_at.result.1.now place many
    c.split_at.ensures.back (c.has_production.ensures.0 c.if-not-has_production.false)
    (c.have_symbols.ensures.0 c.if-not-have_symbols.false ∙ side) (c.is_size_over.ensures.0 c.if-not-is_size_over.false)
