-- What reading a part of a text gives: a value and the text after it, or a fault and how much text is left where it is.
use Rattle.std.specs.Prelude.{◌≡◌, ℕ, ◌==◌, List, [], ◌∷◌, length, Option, Some, None, Result, Ok, Err}
use Rattle.std.specs.Prelude.{if◌then◌else◌}
use Rattle.std.specs.Borrow.{Bor}
use Rattle.lalrpop_lexer_regex.specs.declared.classes.fault.PatternFaultKind.{PatternFaultKind}
use Rattle.lalrpop_lexer_regex.specs.declared.classes.fault.PatternFaultKind.TheVariants.{Syntax}
use Rattle.lalrpop_lexer_regex.specs.declared.classes.fault.PatternError.{PatternError}
use Rattle.lalrpop_lexer_regex.specs.declared.classes.fault.PatternError.TheVariants as error

abbrev pub Fault : Type 0
Fault = PatternFaultKind × ℕ

abbrev pub Reading : Type 0 → Type 0
Reading X = Result (X × List ℕ) Fault

-- a reading, and then one that goes on with its value and the text after it
infixl 10 ◌>>=◌
abbrev pub ◌>>=◌ : {A B : Type 0} → Result A Fault → (A → Result B Fault) → Result B Fault
(Ok x) >>= f = f x
(Err e) >>= f = Err e

-- the rest of the text isn't what the syntax allows
abbrev pub syntax_fault : {A : Type 0} → List ℕ → Result A Fault
syntax_fault t = Err (Syntax, length t)

-- the text after the character, where it begins with it
abbrev pub after_at : ℕ → List ℕ → Option (List ℕ)
after_at mark [] = None
after_at mark (c ∷ t) = if c == mark then Some t else None

-- the text after the character that it has to begin with
abbrev pub closing_at : ℕ → List ℕ → Result (List ℕ) Fault
closing_at close [] = syntax_fault []
closing_at close (c ∷ t) = if c == close then Ok t else syntax_fault (c ∷ t)

-- An error that a function returns is the fault of the reading, unless memory ran out.
abbrev pub FailsReading : {Y : Type 0} → PatternError → Result Y Fault → Type 0
FailsReading error.Memory reading = Unit {0}
FailsReading (error.Fault kind left) reading = reading ≡ Err (kind, left)

-- What a function returns, seen by view, is what the reading gives, unless memory ran out.
abbrev pub GivesReading : {X Y : Type 0} → (X → Y) → Result X PatternError → Result Y Fault → Type 0
GivesReading view (Ok x) reading = reading ≡ Ok (view x)
GivesReading view (Err e) reading = FailsReading e reading

-- a value, and what the text after it holds
abbrev pub value_read : {X : Type 0} → X × Bor (List ℕ) → X × List ℕ
value_read x = (x.0, x.1.now)
