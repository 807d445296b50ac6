use Rattle.std.proofs.Common.{◌≡◌, ◌<◌, ◌∙◌, ℕ, sym, List, Contains, Some, subst, arith, length, set}
use Rattle.lalrpop_lexer.specs.Kernels.{IsSingle, HasOneKernelMore}
use Rattle.lalrpop_lexer.proofs.KernelTableLemmas.{kernels_of, AreApart, single_more, other_more, still_apart, apart_set}
use Rattle.lalrpop_lexer.proofs.kernels.Kernels.insert.Goals as goal

abbrev IsNew : List ℕ → List (List ℕ × ℕ) → Type 0
IsNew key all = (n : ℕ) → Contains all (key, n) → ⊥

pub invariant_of-self : goal.invariant_of-self
invariant_of-self c =
    apart_set c.self.inside.singles.items c.self.inside.others.entries c.in-Some.state (Some c.args.number) c.self.invariant

pub returns-in-Some : goal.returns-in-Some
returns-in-Some c =
    let table = c.self.inside.singles.items in
    let others = c.self.inside.others.entries in
    let state = c.in-Some.state in
    let inside : state < length table = omega (arith, c.in-Some.ensures.1, c.len.ensures, c.self.inside.singles.ok.0) in
    let new = subst (IsNew c.args.kernel.now) (sym c.self.view_is) c.requires in
    let P : List ℕ → Type 0 = λ key.
    HasOneKernelMore (key, c.args.number) (kernels_of table others) (kernels_of (set table state (Some c.args.number)) others) in
    let Q : List (List ℕ × ℕ) → Type 0 = λ all.
    HasOneKernelMore (c.args.kernel.now, c.args.number) all (kernels_of (set table state (Some c.args.number)) others) in
    subst Q c.self.view_is
    (subst P (sym c.in-Some.ensures.0)
    (single_more table others state c.args.number inside
    (let R : List ℕ → Type 0 = λ key. IsNew key (kernels_of table others) in subst R c.in-Some.ensures.0 new)))

pub invariant_of-self-in_err-insert : goal.invariant_of-self-in_err-insert
invariant_of-self-in_err-insert c =
    subst (AreApart c.self.inside.singles.items) (sym c.in_err-insert.ensures.err) c.self.invariant

pub invariant_of-self-2 : goal.invariant_of-self-2
invariant_of-self-2 c =
    let table = c.self.inside.singles.items in
    let others = c.self.inside.others.entries in
    let P : ℕ → Type 0 = λ n. IsSingle n c.args.kernel.now → ⊥ in
    let size : c.len.result ≡ length table = c.len.ensures ∙ c.self.inside.singles.ok.0 in
    let Q : List ℕ → Type 0 = λ key. IsSingle (length table) key → ⊥ in
    rw c.in_ok-insert.ensures.entries
    (still_apart table others c.in_ok-key.key c.args.number c.self.invariant
    (subst Q (sym c.in_ok-key.ensures.items) (subst P size c.in_default.ensures)))

pub returns : goal.returns
returns c =
    let table = c.self.inside.singles.items in
    let others = c.self.inside.others.entries in
    let new = subst (IsNew c.args.kernel.now) (sym c.self.view_is) c.requires in
    let R : List ℕ → Type 0 = λ key. IsNew key (kernels_of table others) in
    let after = c.insert.new.self.entries in
    let P : List ℕ → Type 0 = λ key. HasOneKernelMore (key, c.args.number) (kernels_of table others) (kernels_of table after) in
    let Q : List (List ℕ × ℕ) → Type 0 = λ all.
    HasOneKernelMore (c.args.kernel.now, c.args.number) all (kernels_of table after) in
    subst Q c.self.view_is
    (subst P c.in_ok-key.ensures.items
    (rw c.in_ok-insert.ensures.entries
    (other_more table others c.in_ok-key.key c.args.number (subst R (sym c.in_ok-key.ensures.items) new))))
