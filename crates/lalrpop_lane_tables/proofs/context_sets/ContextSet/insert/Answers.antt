use Rattle.std.proofs.Common.{◌≡◌, ◌∙◌, subst, sym, true, false}
use Rattle.lalrpop_lane_theory.specs.Columns.{MeetsAnother}
use Rattle.lalrpop_lane_tables.specs.ColumnAnswers.{HasToken}
use Rattle.lalrpop_lane_tables.proofs.InsertLemmas.{insert_came, insert_gathers}
use Rattle.lalrpop_lane_tables.proofs.context_sets.ContextSet.insert.Goals as goal

pub returns-clause-gathers : goal.returns-clause-gathers
returns-clause-gathers c =
    rw (← c.self.view_is) (insert_gathers c.self.inside.values.items c.args.conflict.index c.args.set.now c.index_mut.result.now
    c.union_with.new.self (rw c.self.view_is c.requires) c.index_mut.ensures.value c.in_ok-came.ensures.joined
    (λ m. let z = c.meets_another.ensures.1 (subst (λ l. MeetsAnother HasToken l c.args.conflict.index c.args.set.now) (sym c.as_slice.ensures.value) m) in
    let w : true ≡ false = sym z ∙ c.if-meets_another.false in
    let v : ⊥ = cc in v))

pub returns-clause-came : goal.returns-clause-came
returns-clause-came c =
    rw (← c.self.view_is) (insert_came c.self.inside.values.items c.args.conflict.index c.args.set.now c.index_mut.result.now
    c.union_with.new.self (rw c.self.view_is c.requires) c.index_mut.ensures.value c.in_ok-came.ensures.joined c.in_ok-came.came
    c.in_ok-came.ensures.same c.in_ok-came.ensures.grown)
