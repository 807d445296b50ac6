-- What a path of a graph of traces tells: which symbols stand on the stack and are still to come, and what is reduced to what.
use Rattle.std.specs.Prelude.{ℕ, ◌+◌, List, [], ◌∷◌, ◌++◌, map, length, Option, Some, None, option_to_list, slice_get, ◌≡◌}
use Rattle.lalrpop_grammar_symbols.specs.declared.names.NonterminalString.{NonterminalString}
use Rattle.lalrpop_grammar_repr.specs.declared.production.Symbol.{Symbol}
use Rattle.lalrpop_lane_report.specs.declared.traces.example.Example.{Example}
use Rattle.lalrpop_lane_report.specs.declared.traces.example.ExampleSymbol.{ExampleSymbol}
use Rattle.lalrpop_lane_report.specs.declared.traces.example.ExampleSymbol.TheVariants as shown
use Rattle.lalrpop_lane_report.specs.declared.traces.example.Reduction.{Reduction}
use Rattle.lalrpop_lane_report.specs.TraceNodes.{EdgeLabel, TraceEdge, GraphNode, item_node, nonterminal_node}

-- a label, with the nonterminal from which it leads
pub record NamedLabel : Type 0 where
  pub name : NonterminalString
  pub label : EdgeLabel

-- the nonterminal of a node: itself, or that of its item
abbrev pub name_of_node : Option GraphNode → NonterminalString
name_of_node None = record { 0 = [] }
name_of_node (Some (nonterminal_node n)) = n
name_of_node (Some (item_node p i)) = p.nonterminal

abbrev pub named_label : List GraphNode → TraceEdge → NamedLabel
named_label nodes e = record { name = name_of_node (slice_get nodes e.from); label = e.label }

-- the labels of a path, from the innermost out, without and with names
abbrev pub labels_of : List TraceEdge → List EdgeLabel
labels_of path = map (λ e. e.label) path

abbrev pub named_labels : List GraphNode → List TraceEdge → List NamedLabel
named_labels nodes path = map (named_label nodes) path

-- the prefixes of labels, from the outermost in
abbrev pub joined_prefixes : List EdgeLabel → List Symbol
joined_prefixes [] = []
joined_prefixes (l ∷ ls) = joined_prefixes ls ++ l.prefix

-- their suffixes, from the innermost out
abbrev pub joined_suffixes : List EdgeLabel → List Symbol
joined_suffixes [] = []
joined_suffixes (l ∷ ls) = l.suffix ++ joined_suffixes ls

-- what stands at a cursor: its symbol; where it has none and no symbol stands before it, nothing, which is shown
abbrev pub cursor_symbols : Option Symbol → List Symbol → List ExampleSymbol
cursor_symbols (Some s) prefix = shown.Symbol s ∷ []
cursor_symbols None [] = shown.Epsilon ∷ []
cursor_symbols None (s ∷ prefix) = []

abbrev pub at_cursor : List EdgeLabel → List ExampleSymbol
at_cursor [] = []
at_cursor (l ∷ ls) = cursor_symbols l.cursor l.prefix

abbrev pub example_symbols : List EdgeLabel → List ExampleSymbol
example_symbols ls = map shown.Symbol (joined_prefixes ls) ++ at_cursor ls ++ map shown.Symbol (joined_suffixes ls)

-- the reduction over so many symbols behind so many
abbrev pub reduction_over : ℕ → ℕ → NonterminalString → Reduction
reduction_over before count name = record { start = before; end = before + count; nonterminal = name }

-- how many symbols a label and so many inside it are
abbrev pub label_length : ℕ → EdgeLabel → ℕ
label_length inside l = length l.prefix + inside + length l.suffix

-- the reductions from the innermost out, each over its label and those inside, where so many symbols stand inside all of them
abbrev pub reductions_over : ℕ → List NamedLabel → List Reduction
reductions_over inside [] = []
reductions_over inside (l ∷ ls) =
    reduction_over (length (joined_prefixes (map (λ m. m.label) ls))) (label_length inside l.label) l.name
    ∷ reductions_over (label_length inside l.label) ls

pub record IsExample (nodes : List GraphNode) (path : List TraceEdge) (example : Example) : Type 0 where
  pub symbols : example.symbols.items ≡ example_symbols (labels_of path)
  pub cursor : example.cursor ≡ length (joined_prefixes (labels_of path))
  pub reductions : example.reductions.items ≡ reductions_over (length (at_cursor (labels_of path))) (named_labels nodes path)

-- the symbols of the grammar among those that are shown
abbrev pub symbols_shown : List ExampleSymbol → List Symbol
symbols_shown [] = []
symbols_shown (shown.Symbol s ∷ xs) = s ∷ symbols_shown xs
symbols_shown (shown.Epsilon ∷ xs) = symbols_shown xs

-- what comes next: the innermost cursor, then the suffixes
abbrev pub next_symbols : List EdgeLabel → List Symbol
next_symbols [] = []
next_symbols (l ∷ ls) = option_to_list l.cursor ++ joined_suffixes (l ∷ ls)
