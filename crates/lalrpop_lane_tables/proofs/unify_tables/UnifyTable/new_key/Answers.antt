use Rattle.std.proofs.Common.{rules, ◌≡◌, ◌∙◌, ◌∷◌, ◌++◌, [], ap, length, List, subst, sym, ℕ}
use Rattle.lalrpop_lane_tables.specs.UnifiedClasses.{AddsClass, ClassEntry, class_entries}
use Rattle.lalrpop_lane_tables.proofs.UnifyLemmas.{class_comes, entries_stay, on_err}
use Rattle.lalrpop_lane_tables.proofs.unify_tables.UnifyTable.new_key.Goals as goal

pub returns-in_err-push-2-clause-kept : goal.returns-in_err-push-2-clause-kept
returns-in_err-push-2-clause-kept c =
    let classes = c.self.inside.classes.items in
    let columns = c.self.inside.columns.items in
    let same : c.push-2.new.self.items ≡ classes = c.in_err-push-2.ensures.items in
    let more : c.push.new.self.items ≡ columns ++ c.args.columns ∷ [] = c.in_ok-push.ensures.items in
    let kept : class_entries c.push-2.new.self.items c.push.new.self.items ≡ c.args.self.now =
    ap (λ cs. class_entries cs c.push.new.self.items) same ∙ ap (class_entries classes) more
    ∙ entries_stay classes columns c.args.columns c.self.invariant ∙ c.self.view_is in
    on_err c.from_residual-in_err-push-2.result kept

pub returns-clause-added : goal.returns-clause-added
returns-clause-added c =
    let classes = c.self.inside.classes.items in
    let columns = c.self.inside.columns.items in
    let class : c.len-class.result ≡ length columns = search rules in
    let index : c.len-index.result ≡ length classes = search rules in
    let keys : c.push-2.new.self.items ≡ classes ++ length columns ∷ [] =
    c.in_ok-push-2.ensures.items ∙ ap (λ n. classes ++ n ∷ []) class in
    let more : c.push.new.self.items ≡ columns ++ c.args.columns ∷ [] = c.in_ok-push.ensures.items in
    let new : class_entries c.push-2.new.self.items c.push.new.self.items
    ≡ class_entries (classes ++ length columns ∷ []) (columns ++ c.args.columns ∷ []) =
    ap (λ cs. class_entries cs c.push.new.self.items) keys ∙ ap (class_entries (classes ++ length columns ∷ [])) more in
    subst (λ (old : List ClassEntry). AddsClass old c.args.columns c.len-index.result (class_entries c.push-2.new.self.items c.push.new.self.items))
    c.self.view_is
    (subst (λ (k : ℕ). AddsClass (class_entries classes columns) c.args.columns k (class_entries c.push-2.new.self.items c.push.new.self.items))
    (sym index)
    (subst (λ (es : List ClassEntry). AddsClass (class_entries classes columns) c.args.columns (length classes) es) (sym new)
    (class_comes classes columns c.args.columns c.self.invariant)))
