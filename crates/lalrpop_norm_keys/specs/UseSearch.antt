-- Calls and keys in the order in which the search adds them: what each key uses, one key after another.
use Rattle.std.specs.Prelude.{◌≡◌, List, [], ◌∷◌, flat_map}
use Rattle.lalrpop_grammar_symbols.specs.Symbols.{Closed, Closeds}
use Rattle.lalrpop_grammar_language.specs.Enabled.{EnabledGrammar}
use Rattle.lalrpop_norm_theory.specs.FirstUse.{AreInOrderOfUse, AreUsesOf}
use Rattle.lalrpop_norm_theory.specs.UsedKeys.{KeyUses, written_keys}
use Rattle.lalrpop_norm_keys.specs.Tables.{AddsKeys, table_keys}
use Rattle.lalrpop_norm_keys.specs.declared.rounds.FoundCalls.{FoundCalls}
use Rattle.lalrpop_norm_keys.specs.declared.rounds.FoundCalls.TheVariants as found

-- the key, where it is a call with arguments
abbrev pub macro_call : Closed → List Closed
macro_call (Closed.call n Closeds.none level) = []
macro_call (Closed.call n (Closeds.more x xs) level) = Closed.call n (Closeds.more x xs) level ∷ []
macro_call (Closed.terminal t) = []
macro_call (Closed.repeat op x) = []
macro_call (Closed.group xs) = []
macro_call (Closed.choose x) = []
macro_call (Closed.name m n x) = []
macro_call Closed.lookahead = []
macro_call Closed.lookbehind = []
macro_call Closed.faulty = []

abbrev pub macro_calls : List Closed → List Closed
macro_calls keys = flat_map macro_call keys

-- of what a key uses the calls with arguments
abbrev pub UsesCalls : EnabledGrammar → Closed → List Closed → Type 0
UsesCalls g y us = (keys : List Closed) × KeyUses g y keys × (us ≡ macro_calls keys)

-- the key itself, and then what it uses
abbrev pub UsesWithItself : EnabledGrammar → Closed → List Closed → Type 0
UsesWithItself g y us = (keys : List Closed) × KeyUses g y keys × (us ≡ y ∷ keys)

-- to the known ones is added what these use, one after another, each thing once
abbrev pub AddsUsesOf : (Closed → List Closed → Type 0) → List Closed → List Closed → List Closed → Type 0
AddsUsesOf uses ys known all = (us : List Closed) × AreUsesOf uses ys us × AddsKeys known us all

-- the calls of macros that a grammar makes, each where it is used first
abbrev pub AreCallsByUse : EnabledGrammar → List Closed → Type 0
AreCallsByUse g calls = AreInOrderOfUse (UsesCalls g) (written_keys g) calls

-- so are the calls that were found, where none is too deep
abbrev pub HasCallsByUse : EnabledGrammar → FoundCalls → Type 0
HasCallsByUse g (found.All calls) = AreCallsByUse g (table_keys calls)
HasCallsByUse g (found.TooDeep x span) = Unit {0}
