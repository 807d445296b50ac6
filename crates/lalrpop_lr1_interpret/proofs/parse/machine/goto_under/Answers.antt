use Rattle.std.proofs.Common.{◌≡◌, ◌-◌, ℕ, List, arith, get_or, length, refl, subst, take}
use Rattle.std.proofs.lemmas.Option.{IfSome_then}
use Rattle.std.specs.Prelude.{Option, Some, None, IfNone}
use Rattle.lalrpop_lr1_interpret.specs.Tables.{StandsUnder}
use Rattle.lalrpop_lr1_interpret.proofs.RunLemmas.{read_behind}
use Rattle.lalrpop_lr1_interpret.proofs.parse.machine.goto_under.Goals as goal

-- the last of the numbers that are left stands under those that are taken off
last_left : (numbers left : List ℕ) (count k n : ℕ) → k ≡ length numbers - count → left ≡ take k numbers → n ≡ get_or left (k - 1) n
    → StandsUnder numbers count n
last_left numbers left count k n e is read =
    subst (λ j. n ≡ get_or (take j numbers) (length (take j numbers) - 1) n) e
    (read_behind numbers left k n (k - 1) is (omega (arith, e)) read refl)

none_then : {X A B : Type 0} (o : Option X) → IfNone o A → (A → B) → IfNone o B
none_then None a f = f a
none_then (Some x) a f = a

pub goto-requires-clause-there : goal.goto-requires-clause-there
goto-requires-clause-there c =
    c.requires.there c.index.result.now
    (last_left c.args.numbers.now.items c.truncate.new.self.items c.args.count (c.len.result - c.args.count) c.index.result.now
    (omega (arith, c.len.ensures)) c.truncate.ensures.items c.index.ensures)

pub returns-clause-left : goal.returns-clause-left
returns-clause-left c =
    let kept : c.len.result - c.args.count ≡ length c.args.numbers.now.items - c.args.count = omega (arith, c.len.ensures) in
    subst (λ k. c.truncate.new.self.items ≡ take k c.args.numbers.now.items) kept c.truncate.ensures.items

pub returns-clause-found : goal.returns-clause-found
returns-clause-found c =
    let n = c.index.result.now in
    let under : StandsUnder c.args.numbers.now.items c.args.count n =
    last_left c.args.numbers.now.items c.truncate.new.self.items c.args.count (c.len.result - c.args.count) n
    (omega (arith, c.len.ensures)) c.truncate.ensures.items c.index.ensures in
    IfSome_then c.goto.result c.goto.ensures.found (λ m leads. (n, under, leads))

pub returns-clause-none : goal.returns-clause-none
returns-clause-none c =
    let n = c.index.result.now in
    let under : StandsUnder c.args.numbers.now.items c.args.count n =
    last_left c.args.numbers.now.items c.truncate.new.self.items c.args.count (c.len.result - c.args.count) n
    (omega (arith, c.len.ensures)) c.truncate.ensures.items c.index.ensures in
    none_then c.goto.result c.goto.ensures.none (λ nowhere. (n, under, nowhere))
