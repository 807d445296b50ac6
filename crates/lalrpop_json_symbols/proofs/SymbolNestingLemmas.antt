-- Symbols inside symbols: that a reader reads by its form, for the functions that call each other and for the laws.
use Rattle.std.proofs.Common.{◌≡◌, [], Option, Some, None, Result, Err, refl}
use Rattle.serde_json.specs.Data.{Data}
use Rattle.lalrpop_grammar_symbols.specs.declared.symbol.Symbol.{Symbol}
use Rattle.lalrpop_json_values.specs.declared.fault.FaultKind.TheVariants as fault
use Rattle.lalrpop_json_values.specs.declared.fault.ReadError.{ReadError}
use Rattle.lalrpop_json_values.specs.declared.fault.ReadError.TheVariants.{Shape}
use Rattle.lalrpop_json_values.specs.declared.form.Form.{Form}
use Rattle.lalrpop_json_values.specs.declared.form.Form.TheVariants as form
use Rattle.lalrpop_json_values.specs.declared.key.Key.TheVariants as key
use Rattle.lalrpop_json_values.specs.Gives.{Fails, Gives, here}
use Rattle.lalrpop_json_values.specs.Nested.{Reader, AgreeBelow, IsInward}
use Rattle.lalrpop_json_values.proofs.NestingLemmas.{field_same, listed_same, nested_opened, nesting}
use Rattle.lalrpop_json_symbols.specs.Symbols.{choose_at, group_at, macro_at, named_at, repeat_at, symbol_layer_at, symbol_at, symbol_by}
use Rattle.lalrpop_json_symbols.specs.Symbols.{form_of_symbol}

by_same : (o : Option Form) (f g : Reader Symbol) (d : Data) → AgreeBelow d f g → symbol_by o f d ≡ symbol_by o g d
unfolding choose_at group_at macro_at named_at repeat_at
by_same (Some form.Choose) f g d same = rw (field_same f g key.Symbol d same) refl
by_same (Some form.Group) f g d same = rw (listed_same f g key.Expr d same) refl
by_same (Some form.Macro) f g d same = rw (listed_same f g key.Args d same) refl
by_same (Some form.Named) f g d same = rw (field_same f g key.Symbol d same) refl
by_same (Some form.Repeat) f g d same = rw (field_same f g key.Symbol d same) refl
by_same _ f g d same = refl

inward : IsInward symbol_layer_at
unfolding symbol_layer_at
inward f g d same = by_same (form_of_symbol d) f g d same

-- a symbol is read by its form, and the symbols inside it likewise
pub symbol_opened : (d : Data) → symbol_at d ≡ symbol_layer_at symbol_at d
unfolding symbol_at
symbol_opened d = nested_opened symbol_layer_at inward d

-- what is read by the form that a value has, it is read as
pub symbol_by_form : (f : Form) (d : Data) (r : Result Symbol ReadError) → Some f ≡ form_of_symbol d
    → Gives r (symbol_by (Some f) symbol_at d) → Gives r (symbol_at d)
unfolding symbol_layer_at
symbol_by_form f d r e gives = rw (symbol_opened d, ← e) gives

other_by : (f : Form) (read : Reader Symbol) (d : Data) → (f ≡ form.Choose → ⊥) → (f ≡ form.Error → ⊥)
    → (f ≡ form.Group → ⊥) → (f ≡ form.Id → ⊥) → (f ≡ form.Lookahead → ⊥) → (f ≡ form.Lookbehind → ⊥) → (f ≡ form.Macro → ⊥)
    → (f ≡ form.Named → ⊥) → (f ≡ form.Repeat → ⊥) → (f ≡ form.Terminal → ⊥)
    → symbol_by (Some f) read d ≡ Err (here fault.WrongShape)
other_by form.Choose read d choose error group id lookahead lookbehind macro named repeat terminal = absurd (choose refl)
other_by form.Error read d choose error group id lookahead lookbehind macro named repeat terminal = absurd (error refl)
other_by form.Group read d choose error group id lookahead lookbehind macro named repeat terminal = absurd (group refl)
other_by form.Id read d choose error group id lookahead lookbehind macro named repeat terminal = absurd (id refl)
other_by form.Lookahead read d choose error group id lookahead lookbehind macro named repeat terminal = absurd (lookahead refl)
other_by form.Lookbehind read d choose error group id lookahead lookbehind macro named repeat terminal = absurd (lookbehind refl)
other_by form.Macro read d choose error group id lookahead lookbehind macro named repeat terminal = absurd (macro refl)
other_by form.Named read d choose error group id lookahead lookbehind macro named repeat terminal = absurd (named refl)
other_by form.Repeat read d choose error group id lookahead lookbehind macro named repeat terminal = absurd (repeat refl)
other_by form.Terminal read d choose error group id lookahead lookbehind macro named repeat terminal = absurd (terminal refl)
other_by _ read d choose error group id lookahead lookbehind macro named repeat terminal = refl

-- a value of no form that a symbol has is read as none
pub other_symbol : (f : Form) (d : Data) (e : ReadError) → Some f ≡ form_of_symbol d → e ≡ Shape [] fault.WrongShape
    → (f ≡ form.Choose → ⊥) → (f ≡ form.Error → ⊥)
    → (f ≡ form.Group → ⊥) → (f ≡ form.Id → ⊥) → (f ≡ form.Lookahead → ⊥) → (f ≡ form.Lookbehind → ⊥) → (f ≡ form.Macro → ⊥)
    → (f ≡ form.Named → ⊥) → (f ≡ form.Repeat → ⊥) → (f ≡ form.Terminal → ⊥)
    → Fails e (symbol_at d)
unfolding symbol_layer_at
other_symbol f d e told is choose error group id lookahead lookbehind macro named repeat terminal =
    rw (is, symbol_opened d, ← told) (other_by f symbol_at d choose error group id lookahead lookbehind macro named repeat terminal)

pub no_symbol : (d : Data) (e : ReadError) → None ≡ form_of_symbol d → e ≡ Shape [] fault.WrongShape → Fails e (symbol_at d)
unfolding symbol_layer_at
no_symbol d e told is = rw (is, symbol_opened d, ← told) refl

pub ruleset symbol_nesting = (symbol_opened, nesting)
