-- The rules of a grammar as they are written, by their names: of several with one name the first.
use Rattle.std.specs.Prelude.{◌≡◌, List, [], ◌∷◌, map, Option, Some, None, option_map, if◌then◌else◌}
use Rattle.std.specs.Borrow.{Bor}
use Rattle.std.specs.HashMap.{HashMap, get_by}
use Rattle.std.specs.Str.{bytes_eq}
use Rattle.std.specs.declared.hash.FoldHasher.{FoldHasher}
use Rattle.std.specs.declared.hash.BuildHasherDefault.{BuildHasherDefault}
use Rattle.lalrpop_grammar_symbols.specs.Symbols.{Text, Argument, Sym, Syms}
use Rattle.lalrpop_grammar_symbols.specs.Views.{symbol_view, without_marks}
use Rattle.lalrpop_grammar_symbols.specs.declared.symbol.Symbol.{Symbol}
use Rattle.lalrpop_grammar.specs.WrittenGrammar.{Rule}
use Rattle.lalrpop_grammar.specs.Views.{nonterminal_view}
use Rattle.lalrpop_norm_theory.specs.Between.{name_in_origins}
use Rattle.lalrpop_grammar.specs.declared.nonterminal.NonterminalData.{NonterminalData}

abbrev pub or_rule : Option Rule → Option Rule → Option Rule
or_rule None o = o
or_rule (Some r) o = Some r

-- the first rule of that name
abbrev pub first_written : Text → List Rule → Option Rule
first_written n [] = None
first_written n (r ∷ rs) = if bytes_eq r.name n then Some r else first_written n rs

abbrev pub WrittenByName : Type 0
WrittenByName = HashMap (Bor Text) (Bor NonterminalData) (BuildHasherDefault FoldHasher)

-- the rule that the map has for the name
abbrev pub written_at : WrittenByName → Text → Option Rule
written_at m n = option_map (λ r. nonterminal_view r.now) (get_by (λ k. bytes_eq n k.now) m)

-- the map has the first of these rules for each name
abbrev pub HasWritten : WrittenByName → List Rule → Type 0
HasWritten m rs = (n : Text) → written_at m n ≡ first_written n rs

-- symbols as arguments
abbrev pub arguments_view : List Symbol → List Argument
arguments_view xs = map (λ s. without_marks (symbol_view s)) xs

-- the name under which a rule was written, by the rule that has the name now
abbrev pub spelled_by : Option Rule → Text → Text
spelled_by None n = n
spelled_by (Some r) n = name_in_origins n (map (λ a. a.origin) r.alternatives)

abbrev pub spelled_in : WrittenByName → Text → Text
spelled_in m n = spelled_by (written_at m n) n

-- a call as an argument: by its name alone, where it has no arguments
abbrev pub call_as_argument : Text → Syms (Unit {0}) → Argument
call_as_argument n Syms.none = Sym.ambiguous_id tt n
call_as_argument n (Syms.more x xs) = Sym.macro tt n (Syms.more x xs)
