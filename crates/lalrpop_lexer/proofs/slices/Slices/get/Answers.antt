use Rattle.std.proofs.Common.{◌∙◌, [], ap, sym, length, get_or, arith}
use Rattle.std.proofs.lemmas.List.{get_or_default}
use Rattle.lalrpop_lexer.specs.Slices.{slice_start}
use Rattle.lalrpop_lexer.proofs.SliceLemmas.{ends_count, place_within, list_at}
use Rattle.lalrpop_lexer.proofs.slices.Slices.get.Goals as goal

pub index-end-requires : goal.index-end-requires
index-end-requires g c =
    let count = ends_count c.self.inside.items.items c.self.inside.ends.items c.args.self.now c.self.view_is in
    omega (arith, c.requires, count, c.self.inside.ends.ok.0)

pub start_of-requires : goal.start_of-requires
start_of-requires g c =
    let count = ends_count c.self.inside.items.items c.self.inside.ends.items c.args.self.now c.self.view_is in
    omega (arith, c.requires, count, ap length c.deref-2.ensures.value)

pub offset_bounds-deref-start_of : goal.offset_bounds-deref-start_of
offset_bounds-deref-start_of g c =
    let ends = c.self.inside.ends.items in
    let count = ends_count c.self.inside.items.items ends c.args.self.now c.self.view_is in
    let at = place_within 0 ends (length c.self.inside.items.items) c.args.place c.self.invariant (omega (arith, c.requires, count)) in
    let start = c.start_of.ensures ∙ ap (λ es. slice_start 0 es c.args.place) c.deref-2.ensures.value in
    omega (arith, at.0, at.1, start, ap length c.deref.ensures.value)

pub slice_bounds-result-count : goal.slice_bounds-result-count
slice_bounds-result-count g c =
    let ends = c.self.inside.ends.items in
    let count = ends_count c.self.inside.items.items ends c.args.self.now c.self.view_is in
    let at = place_within 0 ends (length c.self.inside.items.items) c.args.place c.self.invariant (omega (arith, c.requires, count)) in
    let start = c.start_of.ensures ∙ ap (λ es. slice_start 0 es c.args.place) c.deref-2.ensures.value in
    let end = c.index-end.ensures ∙ get_or_default ends c.args.place c.index-end.result.now 0 (omega (arith, c.requires, count)) in
    omega (arith, at.0, start, end)

pub slice_bounds-result-start : goal.slice_bounds-result-start
slice_bounds-result-start g c = slice_bounds-result-count g c

pub slice_bounds-result-end : goal.slice_bounds-result-end
slice_bounds-result-end g c =
    let ends = c.self.inside.ends.items in
    let count = ends_count c.self.inside.items.items ends c.args.self.now c.self.view_is in
    let at = place_within 0 ends (length c.self.inside.items.items) c.args.place c.self.invariant (omega (arith, c.requires, count)) in
    let end = c.index-end.ensures ∙ get_or_default ends c.args.place c.index-end.result.now 0 (omega (arith, c.requires, count)) in
    omega (arith, at.1, end, ap length c.deref.ensures.value)

pub returns : goal.returns
returns g c =
    let ends = c.self.inside.ends.items in
    let items = c.self.inside.items.items in
    let count = ends_count items ends c.args.self.now c.self.view_is in
    let start = c.start_of.ensures ∙ ap (λ es. slice_start 0 es c.args.place) c.deref-2.ensures.value in
    let end = c.index-end.ensures ∙ get_or_default ends c.args.place c.index-end.result.now 0 (omega (arith, c.requires, count)) in
    rw (end, start, c.deref.ensures.value)
    (sym (list_at items 0 ends c.args.place (omega (arith, c.requires, count)))
    ∙ ap (λ ls. get_or ls c.args.place []) c.self.view_is)
