use Rattle.std.proofs.Common.{◌≡◌, suc, [], ◌∷◌, ◌++◌, ap, ◌∙◌, arith}
use Rattle.lalrpop_grammar_symbols.specs.Subsymbols.{symbols_depth}
use Rattle.lalrpop_grammar_symbols.specs.SymbolWalks.{most_open, slice_view, slices_view}
use Rattle.lalrpop_grammar_symbols.proofs.SubsymbolLemmas.{room-single}
use Rattle.lalrpop_grammar_symbols.proofs.subsymbols.Subsymbols.new.Goals as goal

pub invariant_of-result : goal.invariant_of-result
invariant_of-result c =
    let whole = c.args.symbols in
    let items : c.push.new.self.items ≡ whole ∷ [] =
    c.in_ok-push.ensures.items ∙ ap (λ xs. xs ++ whole ∷ []) c.in_ok-pending.ensures.items in
    let needs : most_open (slices_view c.push.new.self.items) ≡ suc (symbols_depth (slice_view whole)) =
    ap (λ xs. most_open (slices_view xs)) items ∙ room-single (slice_view whole) in
    record {
      room = omega (
        arith,
        needs,
        c.depth_of.ensures,
        c.saturating_add.ensures,
        c.in_ok-pending.ensures.exact,
        c.in_ok-pending.pending.small,
        c.in_ok-push.ensures.capacity,
      );
    }
