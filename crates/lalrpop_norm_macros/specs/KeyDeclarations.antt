-- Declared types with parameters put in, as the program writes them.
use Rattle.std.specs.Prelude.{◌≡◌, List, [], ◌∷◌, Option, Some, None, codes}
use Rattle.lalrpop_grammar_symbols.specs.Symbols.{Text, Op, WrittenSymbol, Closed}
use Rattle.lalrpop_grammar.specs.WrittenGrammar.{Ty}
use Rattle.lalrpop_grammar.specs.Views.{tys}
use Rattle.lalrpop_grammar_language.specs.Among.{Among}
use Rattle.lalrpop_grammar_language.specs.Enabled.{EnabledGrammar, EnabledRule}
use Rattle.lalrpop_grammar_language.specs.Levels.{loosest}
use Rattle.lalrpop_grammar_language.specs.Closing.{Binding, Scope}
use Rattle.lalrpop_norm_theory.specs.KeyRules.{IsWrittenFor}
use Rattle.lalrpop_norm_theory.specs.KeyTypes.{ArePutTypes, IsPutDeclaration, IsPutType, IsSymbolType, repeat_ty}
use Rattle.lalrpop_norm_keys.specs.Tables.{table_keys}
use Rattle.lalrpop_norm_macros.specs.KeyNaming.{SpellsNames}
use Rattle.lalrpop_norm_macros.specs.KeyedSymbols.{AreKeyed, IsMappedSymbol}
use Rattle.lalrpop_norm_macros.specs.declared.key_symbols.names.KeyNames.{KeyNames}

-- where a declared type of the rule is read
abbrev pub declaration_scope : EnabledGrammar → EnabledRule → Binding → Scope
declaration_scope g r b = record { grammar = g; binding = b; owner = r.name; level_at = λ k. loosest r }

-- each value that is bound has mapped bare names
abbrev pub BindsMapped : List Text → Binding → Type 0
BindsMapped bares b = (p : Text × Closed) → Among b p → IsMappedSymbol bares p.1

-- the type of a symbol that stands for the closed one
abbrev pub IsSymbolTypeUnder : KeyNames → Closed → Ty → Type 0
IsSymbolTypeUnder k x z =
    (bares : List Text) (f : Closed → Text) → SpellsNames k f → IsMappedSymbol bares x
    → IsSymbolType bares f (table_keys k.keys.now) x z

-- the type that a name stands for, by what its parameter is bound to
abbrev pub IsNamedTypeUnder : KeyNames → Text → Option Closed → Ty → Type 0
IsNamedTypeUnder k n None z = z ≡ Ty.id n
IsNamedTypeUnder k n (Some x) z = IsSymbolTypeUnder k x z

-- the type with its parameters put in, and several types
abbrev pub IsPutUnder : KeyNames → EnabledGrammar → EnabledRule → Binding → Ty → Ty → Type 0
IsPutUnder k g r b y z =
    (f : Closed → Text) → SpellsNames k f → BindsMapped g.bares b
    → IsPutType g.bares f (table_keys k.keys.now) (declaration_scope g r b) y z

abbrev pub ArePutUnder : KeyNames → EnabledGrammar → EnabledRule → Binding → List Ty → List Ty → Type 0
ArePutUnder k g r b ys zs =
    (f : Closed → Text) → SpellsNames k f → BindsMapped g.bares b
    → ArePutTypes g.bares f (table_keys k.keys.now) (declaration_scope g r b) (tys ys) (tys zs)

abbrev pub IsDeclaredUnder : KeyNames → EnabledGrammar → EnabledRule → Binding → Option Ty → Option Ty → Type 0
IsDeclaredUnder k g r b y z =
    (f : Closed → Text) → SpellsNames k f → BindsMapped g.bares b
    → IsPutDeclaration g.bares f (table_keys k.keys.now) (declaration_scope g r b) y z

-- the type of a repeat of the symbol
abbrev pub IsRepeatTypeUnder : KeyNames → Op → Closed → Ty → Type 0
IsRepeatTypeUnder k op x z =
    (bares : List Text) (f : Closed → Text) → SpellsNames k f → AreKeyed bares (table_keys k.keys.now) (x ∷ [])
    → (v : WrittenSymbol) × (z ≡ repeat_ty op v) × IsWrittenFor bares f x v

-- the name of the type of a repeat
abbrev pub repeat_path_of : Op → Text
repeat_path_of Op.star = codes "Vec"
repeat_path_of Op.plus = codes "Vec"
repeat_path_of Op.question = codes "Option"
