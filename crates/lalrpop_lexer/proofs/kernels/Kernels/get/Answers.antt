use Rattle.std.proofs.Common.{◌≡◌, ◌<◌, ◌∙◌, ℕ, sym, List, Contains, None, MatchOption, Option, subst, arith, length}
use Rattle.std.proofs.lemmas.List.{get_or_default}
use Rattle.lalrpop_lexer.specs.Kernels.{IsSingle}
use Rattle.lalrpop_lexer.proofs.KernelTableLemmas.{kernels_of, single_number, other_number}
use Rattle.lalrpop_lexer.proofs.kernels.Kernels.get.Goals as goal

abbrev Tells : Option ℕ → List (List ℕ × ℕ) → List ℕ → Type 0
Tells o all key = MatchOption o ((n : ℕ) → Contains all (key, n) → ⊥) (λ n. Contains all (key, n))

pub returns-in-Some : goal.returns-in-Some
returns-in-Some c =
    let table = c.self.inside.singles.items in
    let others = c.self.inside.others.entries in
    let state = c.in-Some.state in
    let inside : state < length table = omega (arith, c.in-Some.ensures.1, c.len.ensures, c.self.inside.singles.ok.0) in
    let read = get_or_default table state None c.index.result.now inside ∙ sym c.index.ensures in
    subst (λ all. Tells c.index.result.now all c.args.kernel.now) c.self.view_is
    (subst (Tells c.index.result.now (kernels_of table others)) (sym c.in-Some.ensures.0)
    (single_number table others state c.index.result.now c.self.invariant inside read))

pub returns : goal.returns
returns c =
    let table = c.self.inside.singles.items in
    let others = c.self.inside.others.entries in
    let P : ℕ → Type 0 = λ n. IsSingle n c.args.kernel.now → ⊥ in
    let size : c.len.result ≡ length table = c.len.ensures ∙ c.self.inside.singles.ok.0 in
    subst (λ all. Tells c.copied.result all c.args.kernel.now) c.self.view_is
    (other_number table others c.args.kernel.now c.copied.result (subst P size c.in_default.ensures)
    (sym (c.copied.ensures ∙ c.get.ensures.value)))
