-- Examples of steps, put together one step after the other.
use Rattle.std.proofs.Common.{◌≡◌, ◌∙◌, ◌+◌, ◌-◌, ◌<◌, ◌≤◌, ◌^◌, ℕ, zero, suc, List, [], ◌∷◌, ◌++◌, map, length, refl, sym, ap, subst, append_assoc, arith}
use Rattle.std.proofs.Common.{Contains, Option, None, Some, drop, get_or, take, slice_get, length-append}
use Rattle.std.specs.Prelude.{option_to_list}
use Rattle.std.proofs.lemmas.List.{append-nil, drop_at, length-map, map-append, take_all, take_more}
use Rattle.lalrpop_grammar_symbols.specs.declared.names.NonterminalString.{NonterminalString}
use Rattle.lalrpop_grammar_repr.specs.declared.production.Symbol.{Symbol}
use Rattle.std.proofs.lemmas.List.Elements.{Contains-get_or}
use Rattle.lalrpop_lane_report.specs.declared.traces.example.Example.{Example}
use Rattle.lalrpop_lane_report.specs.declared.traces.example.ExampleSymbol.{ExampleSymbol}
use Rattle.lalrpop_lane_report.specs.declared.traces.example.ExampleSymbol.TheVariants as shown
use Rattle.lalrpop_lane_report.specs.declared.traces.example.Reduction.{Reduction}
use Rattle.lalrpop_lane_report.specs.declared.traces.path_enumerator.TakenEdge.{TakenEdge}
use Rattle.lalrpop_lane_report.specs.Examples.{IsExample, NamedLabel, at_cursor, cursor_symbols, example_symbols, label_length, labels_of, name_of_node, named_labels, next_symbols, joined_prefixes, reduction_over, reductions_over, joined_suffixes, symbols_shown}
use Rattle.lalrpop_lane_report.specs.PathSteps.{step_labels, step_path}
use Rattle.lalrpop_lane_report.specs.TraceNodes.{EdgeLabel, TraceEdge, GraphNode, label_view}

abbrev pub label_of : TakenEdge → EdgeLabel
label_of s = label_view s.edge.now.labels

labels_more : (steps : List TakenEdge) (s : TakenEdge) → step_labels (steps ++ s ∷ []) ≡ step_labels steps ++ label_of s ∷ []
labels_more [] s = refl
labels_more (r ∷ steps) s = ap (λ l. label_of r ∷ l) (labels_more steps s)

prefixes_more : (ls : List EdgeLabel) (l : EdgeLabel) → joined_prefixes (ls ++ l ∷ []) ≡ l.prefix ++ joined_prefixes ls
prefixes_more [] l = sym (append-nil l.prefix)
prefixes_more (m ∷ ls) l = ap (λ x. x ++ m.prefix) (prefixes_more ls l) ∙ append_assoc l.prefix (joined_prefixes ls) m.prefix

-- one symbol after the other
pub symbols_go_on : (out next start : List ExampleSymbol) (xs : List Symbol) (i : ℕ) (x y : Symbol) → next ≡ out ++ shown.Symbol y ∷ [] → y ≡ x →
    take (i + 1) xs ≡ take i xs ++ x ∷ [] → out ≡ start ++ map shown.Symbol (take i xs) → next ≡ start ++ map shown.Symbol (take (i + 1) xs)
symbols_go_on out next start xs i x y pushed same more so_far =
    pushed ∙ ap (λ l. l ++ shown.Symbol y ∷ []) so_far ∙ append_assoc start (map shown.Symbol (take i xs)) (shown.Symbol y ∷ [])
    ∙ ap (λ z. start ++ (map shown.Symbol (take i xs) ++ shown.Symbol z ∷ [])) same
    ∙ ap (λ l. start ++ l) (sym (map-append shown.Symbol (take i xs) (x ∷ [])))
    ∙ ap (λ l. start ++ map shown.Symbol l) (sym more)

-- one step after the other, from the outermost in
pub prefixes_go_on : (out next start : List ExampleSymbol) (left inner : List TakenEdge) (last : TakenEdge) → left ≡ inner ++ last ∷ [] →
    next ≡ out ++ map shown.Symbol (label_of last).prefix → out ++ map shown.Symbol (joined_prefixes (step_labels left)) ≡ start →
    next ++ map shown.Symbol (joined_prefixes (step_labels inner)) ≡ start
prefixes_go_on out next start left inner last is pushed so_far =
    let parted : joined_prefixes (step_labels left) ≡ (label_of last).prefix ++ joined_prefixes (step_labels inner) =
    ap (λ (l : List TakenEdge). joined_prefixes (step_labels l)) is ∙ ap joined_prefixes (labels_more inner last)
    ∙ prefixes_more (step_labels inner) (label_of last) in
    ap (λ l. l ++ map shown.Symbol (joined_prefixes (step_labels inner))) pushed
    ∙ append_assoc out (map shown.Symbol (label_of last).prefix) (map shown.Symbol (joined_prefixes (step_labels inner)))
    ∙ ap (λ l. out ++ l) (sym (map-append shown.Symbol (label_of last).prefix (joined_prefixes (step_labels inner))))
    ∙ ap (λ l. out ++ map shown.Symbol l) (sym parted) ∙ so_far

pub take_none : {X : Type 0} (n : ℕ) (xs : List X) → n ≤ 0 → take n xs ≡ []
take_none zero xs h = refl
take_none (suc n) xs h = absurd (omega (arith, h))

pub take_last : {X : Type 0} (xs : List X) (n : ℕ) (d : X) → 0 < n → n ≤ length xs → take n xs ≡ take (n - 1) xs ++ get_or xs (n - 1) d ∷ []
take_last xs n d some within =
    let up : n ≡ (n - 1) + 1 = omega (arith, some) in
    ap (λ k. take k xs) up ∙ take_more xs (n - 1) d (omega (arith, some, within))

pub prefixes_begin : (out : List ExampleSymbol) (steps : List TakenEdge) (left : ℕ) → left ≡ length steps →
    out ++ map shown.Symbol (joined_prefixes (step_labels (take left steps))) ≡ out ++ map shown.Symbol (joined_prefixes (step_labels steps))
prefixes_begin out steps left all =
    ap (λ (l : List TakenEdge). out ++ map shown.Symbol (joined_prefixes (step_labels l)))
    (take_all left steps (let h : length steps ≤ left = omega (arith, all) in h))

pub prefixes_end : (out start : List ExampleSymbol) (left : List TakenEdge) → left ≡ [] →
    out ++ map shown.Symbol (joined_prefixes (step_labels left)) ≡ start → out ≡ start
prefixes_end out start left none so_far =
    sym (append-nil out) ∙ ap (λ (l : List TakenEdge). out ++ map shown.Symbol (joined_prefixes (step_labels l))) (sym none) ∙ so_far

-- and from the innermost out
pub suffixes_go_on : (out next start : List ExampleSymbol) (left outer : List TakenEdge) (first : TakenEdge) → left ≡ first ∷ outer →
    next ≡ out ++ map shown.Symbol (label_of first).suffix → out ++ map shown.Symbol (joined_suffixes (step_labels left)) ≡ start →
    next ++ map shown.Symbol (joined_suffixes (step_labels outer)) ≡ start
suffixes_go_on out next start left outer first is pushed so_far =
    ap (λ l. l ++ map shown.Symbol (joined_suffixes (step_labels outer))) pushed
    ∙ append_assoc out (map shown.Symbol (label_of first).suffix) (map shown.Symbol (joined_suffixes (step_labels outer)))
    ∙ ap (λ l. out ++ l) (sym (map-append shown.Symbol (label_of first).suffix (joined_suffixes (step_labels outer))))
    ∙ ap (λ (l : List TakenEdge). out ++ map shown.Symbol (joined_suffixes (step_labels l))) (sym is) ∙ so_far

pub suffixes_end : (out start : List ExampleSymbol) (left : List TakenEdge) → left ≡ [] →
    out ++ map shown.Symbol (joined_suffixes (step_labels left)) ≡ start → out ≡ start
suffixes_end out start left none so_far =
    sym (append-nil out) ∙ ap (λ (l : List TakenEdge). out ++ map shown.Symbol (joined_suffixes (step_labels l))) (sym none) ∙ so_far

-- the labels of named labels
pub labels_named : (nodes : List GraphNode) (path : List TraceEdge) → map (λ (m : NamedLabel). m.label) (named_labels nodes path) ≡ labels_of path
labels_named nodes [] = refl
labels_named nodes (e ∷ path) = ap (λ l. e.label ∷ l) (labels_named nodes path)

abbrev pub named : List GraphNode → List TakenEdge → List NamedLabel
named nodes steps = named_labels nodes (step_path steps)

-- Reductions in the making: those of the steps that are left come behind those that were made; the innermost of these begins and ends here.
pub record IsReducing (nodes : List GraphNode) (left : List TakenEdge) (start end : ℕ) (out all : List Reduction) : Type 0 where
  pub made : out ++ reductions_over (end - start) (named nodes left) ≡ all
  pub begins : start ≡ length (joined_prefixes (step_labels left))
  pub room : end + length (joined_suffixes (step_labels left)) < 2 ^ 63
  pub order : start ≤ end

pub reducing_room : (nodes : List GraphNode) (left outer : List TakenEdge) (first : TakenEdge) (start end : ℕ) (out all : List Reduction) →
    left ≡ first ∷ outer → IsReducing nodes left start end out all →
    (length (label_of first).prefix ≤ start) × (end + length (label_of first).suffix < 2 ^ 63)
reducing_room nodes left outer first start end out all is r =
    let b : start ≡ length (joined_prefixes (step_labels outer) ++ (label_of first).prefix) =
    r.begins ∙ ap (λ (l : List TakenEdge). length (joined_prefixes (step_labels l))) is in
    let p = length-append (joined_prefixes (step_labels outer)) (label_of first).prefix in
    let e : length (joined_suffixes (step_labels left)) ≡ length ((label_of first).suffix ++ joined_suffixes (step_labels outer)) =
    ap (λ (l : List TakenEdge). length (joined_suffixes (step_labels l))) is in
    let s = length-append (label_of first).suffix (joined_suffixes (step_labels outer)) in
    let h = r.room in
    (omega (arith, b, p), omega (arith, e, s, h))

abbrev reduction_with : ℕ → ℕ → NonterminalString → Reduction
reduction_with n m x = record { start = n; end = m; nonterminal = x }

pub reducing_goes_on : (nodes : List GraphNode) (left outer : List TakenEdge) (first : TakenEdge) (start end : ℕ) (out next all : List Reduction)
    (name : NonterminalString) → left ≡ first ∷ outer → name ≡ name_of_node (slice_get nodes first.edge.now.from) →
    next ≡ out ++ reduction_with (start - length (label_of first).prefix) (end + length (label_of first).suffix) name ∷ [] →
    IsReducing nodes left start end out all →
    IsReducing nodes outer (start - length (label_of first).prefix) (end + length (label_of first).suffix) next all
reducing_goes_on nodes left outer first start end out next all name is named_is pushed r =
    let l = label_of first in
    let b : start ≡ length (joined_prefixes (step_labels outer) ++ l.prefix) =
    r.begins ∙ ap (λ (k : List TakenEdge). length (joined_prefixes (step_labels k))) is in
    let p = length-append (joined_prefixes (step_labels outer)) l.prefix in
    let e : length (joined_suffixes (step_labels left)) ≡ length (l.suffix ++ joined_suffixes (step_labels outer)) =
    ap (λ (k : List TakenEdge). length (joined_suffixes (step_labels k))) is in
    let s = length-append l.suffix (joined_suffixes (step_labels outer)) in
    let room = r.room in
    let order = r.order in
    let before : start - length l.prefix ≡ length (joined_prefixes (step_labels outer)) = omega (arith, b, p) in
    let size : end + length l.suffix - (start - length l.prefix) ≡ label_length (end - start) l = omega (arith, b, p, order) in
    let ends : end + length l.suffix ≡ length (joined_prefixes (step_labels outer)) + label_length (end - start) l = omega (arith, b, p, order) in
    let labels : length (joined_prefixes (map (λ (m : NamedLabel). m.label) (named nodes outer))) ≡ length (joined_prefixes (step_labels outer)) =
    ap (λ k. length (joined_prefixes k)) (labels_named nodes (step_path outer)) in
    let one : reduction_with (start - length l.prefix) (end + length l.suffix) name
    ≡ reduction_over (length (joined_prefixes (map (λ (m : NamedLabel). m.label) (named nodes outer)))) (label_length (end - start) l)
    (name_of_node (slice_get nodes first.edge.now.from)) =
    ap (λ n. reduction_with n (end + length l.suffix) name) before
    ∙ ap (λ n. reduction_with (length (joined_prefixes (step_labels outer))) n name) ends
    ∙ ap (reduction_with (length (joined_prefixes (step_labels outer))) (length (joined_prefixes (step_labels outer)) + label_length (end - start) l)) named_is
    ∙ ap (λ n. reduction_over n (label_length (end - start) l) (name_of_node (slice_get nodes first.edge.now.from))) (sym labels) in
    record {
      made =
          ap (λ k. k ++ reductions_over (end + length l.suffix - (start - length l.prefix)) (named nodes outer)) pushed
          ∙ append_assoc out (reduction_with (start - length l.prefix) (end + length l.suffix) name ∷ [])
          (reductions_over (end + length l.suffix - (start - length l.prefix)) (named nodes outer))
          ∙ ap (λ k. out ++ k ∷ reductions_over (end + length l.suffix - (start - length l.prefix)) (named nodes outer)) one
          ∙ ap (λ k. out ++ reduction_over (length (joined_prefixes (map (λ (m : NamedLabel). m.label) (named nodes outer)))) (label_length (end - start) l)
          (name_of_node (slice_get nodes first.edge.now.from)) ∷ reductions_over k (named nodes outer)) size
          ∙ ap (λ (k : List TakenEdge). out ++ reductions_over (end - start) (named nodes k)) (sym is) ∙ r.made;
      begins = before;
      room = omega (arith, e, s, room);
      order = omega (arith, order);
    }

pub reducing_begins : (nodes : List GraphNode) (steps : List TakenEdge) (cursor inside : ℕ) (out : List Reduction) →
    cursor ≡ length (joined_prefixes (step_labels steps)) → cursor + inside + length (joined_suffixes (step_labels steps)) < 2 ^ 63 →
    IsReducing nodes steps cursor (cursor + inside) out (out ++ reductions_over inside (named nodes steps))
reducing_begins nodes steps cursor inside out begins room =
    let size : cursor + inside - cursor ≡ inside = omega arith in
    record {
      made = ap (λ n. out ++ reductions_over n (named nodes steps)) size;
      begins = begins;
      room = room;
      order = omega arith;
    }

pub reducing_ends : (nodes : List GraphNode) (left : List TakenEdge) (start end : ℕ) (out all : List Reduction) → left ≡ [] →
    IsReducing nodes left start end out all → out ≡ all
reducing_ends nodes left start end out all none r =
    sym (append-nil out) ∙ ap (λ (l : List TakenEdge). out ++ reductions_over (end - start) (named nodes l)) (sym none) ∙ r.made

-- the symbols of an example, put together one after the other
pub record IsFilled (ls : List EdgeLabel) (cursor inside : ℕ) (all : List ExampleSymbol) : Type 0 where
  pub symbols : all ≡ example_symbols ls
  pub cursor_is : cursor ≡ length (joined_prefixes ls)
  pub inside_is : inside ≡ length (at_cursor ls)
  pub count : length all ≡ cursor + inside + length (joined_suffixes ls)

pub filled : (ls : List EdgeLabel) (none first second all : List ExampleSymbol) (cursor both : ℕ) → none ≡ [] →
    first ≡ none ++ map shown.Symbol (joined_prefixes ls) → cursor ≡ length first → second ≡ first ++ at_cursor ls → both ≡ length second →
    all ≡ second ++ map shown.Symbol (joined_suffixes ls) → IsFilled ls cursor (both - cursor) all
filled ls none first second all cursor both empty a counted b counts d =
    let one : first ≡ map shown.Symbol (joined_prefixes ls) = a ∙ ap (λ l. l ++ map shown.Symbol (joined_prefixes ls)) empty in
    let two : second ≡ map shown.Symbol (joined_prefixes ls) ++ at_cursor ls = b ∙ ap (λ l. l ++ at_cursor ls) one in
    let first_length : length first ≡ length (joined_prefixes ls) = ap length one ∙ length-map (joined_prefixes ls) shown.Symbol in
    let second_length : length second ≡ length first + length (at_cursor ls) = ap length b ∙ length-append first (at_cursor ls) in
    let all_length : length all ≡ length second + length (map shown.Symbol (joined_suffixes ls)) =
    ap length d ∙ length-append second (map shown.Symbol (joined_suffixes ls)) in
    let last_length : length (map shown.Symbol (joined_suffixes ls)) ≡ length (joined_suffixes ls) = length-map (joined_suffixes ls) shown.Symbol in
    record {
      symbols = d ∙ ap (λ l. l ++ map shown.Symbol (joined_suffixes ls)) two;
      cursor_is = counted ∙ first_length;
      inside_is = omega (arith, counted, counts, second_length);
      count = omega (arith, counted, counts, second_length, all_length, last_length);
    }

-- a step at a place is one of the steps
pub item_in : {X : Type 0} (xs : List X) (i : ℕ) (x : X) → i < length xs → x ≡ get_or xs i x → Contains xs x
item_in xs i x within is = subst (Contains xs) (sym is) (Contains-get_or xs i x within)

-- what is shown from the cursor on is what comes next
shown_all : (xs : List Symbol) → symbols_shown (map shown.Symbol xs) ≡ xs
shown_all [] = refl
shown_all (x ∷ xs) = ap (λ l. x ∷ l) (shown_all xs)

shown_next : (ls : List EdgeLabel) → symbols_shown (at_cursor ls ++ map shown.Symbol (joined_suffixes ls)) ≡ next_symbols ls
shown_next [] = refl
shown_next (l ∷ ls) = go l.cursor l.prefix
  where
    go : (cursor : Option Symbol) (prefix : List Symbol) →
        symbols_shown (cursor_symbols cursor prefix ++ map shown.Symbol (joined_suffixes (l ∷ ls))) ≡ option_to_list cursor ++ joined_suffixes (l ∷ ls)
    go (Some s) prefix = ap (λ k. s ∷ k) (shown_all (joined_suffixes (l ∷ ls)))
    go None [] = shown_all (joined_suffixes (l ∷ ls))
    go None (p ∷ prefix) = shown_all (joined_suffixes (l ∷ ls))

pub example_next : (nodes : List GraphNode) (path : List TraceEdge) (example : Example) → IsExample nodes path example →
    symbols_shown (drop example.cursor example.symbols.items) ≡ next_symbols (labels_of path)
example_next nodes path example is =
    let ls = labels_of path in
    let before : length (map shown.Symbol (joined_prefixes ls)) ≡ example.cursor = length-map (joined_prefixes ls) shown.Symbol ∙ sym is.cursor in
    ap (λ (l : List ExampleSymbol). symbols_shown (drop example.cursor l))
    (is.symbols ∙ append_assoc (map shown.Symbol (joined_prefixes ls)) (at_cursor ls) (map shown.Symbol (joined_suffixes ls)))
    ∙ ap symbols_shown (drop_at (map shown.Symbol (joined_prefixes ls)) (at_cursor ls ++ map shown.Symbol (joined_suffixes ls)) example.cursor before)
    ∙ shown_next ls

pub example_room : (nodes : List GraphNode) (path : List TraceEdge) (example : Example) → IsExample nodes path example →
    example.cursor ≤ length example.symbols.items
example_room nodes path example is =
    let ls = labels_of path in
    let a = ap length (is.symbols ∙ append_assoc (map shown.Symbol (joined_prefixes ls)) (at_cursor ls) (map shown.Symbol (joined_suffixes ls))) in
    let b = length-append (map shown.Symbol (joined_prefixes ls)) (at_cursor ls ++ map shown.Symbol (joined_suffixes ls)) in
    let d = length-map (joined_prefixes ls) shown.Symbol in
    let e = is.cursor in
    omega (arith, a, b, d, e)

-- the symbols that were kept, one after the other
pub shown_go_on : (out next start : List Symbol) (left rest : List ExampleSymbol) (s t : Symbol) → left ≡ shown.Symbol s ∷ rest → t ≡ s →
    next ≡ out ++ t ∷ [] → out ++ symbols_shown left ≡ start → next ++ symbols_shown rest ≡ start
shown_go_on out next start left rest s t is same pushed so_far =
    ap (λ l. l ++ symbols_shown rest) pushed ∙ append_assoc out (t ∷ []) (symbols_shown rest)
    ∙ ap (λ z. out ++ z ∷ symbols_shown rest) same ∙ ap (λ (l : List ExampleSymbol). out ++ symbols_shown l) (sym is) ∙ so_far

pub shown_passes : (out start : List Symbol) (left rest : List ExampleSymbol) → left ≡ shown.Epsilon ∷ rest →
    out ++ symbols_shown left ≡ start → out ++ symbols_shown rest ≡ start
shown_passes out start left rest is so_far = ap (λ (l : List ExampleSymbol). out ++ symbols_shown l) (sym is) ∙ so_far

pub shown_ends : (out start : List Symbol) (left : List ExampleSymbol) → left ≡ [] → out ++ symbols_shown left ≡ start → out ≡ start
shown_ends out start left none so_far =
    sym (append-nil out) ∙ ap (λ (l : List ExampleSymbol). out ++ symbols_shown l) (sym none) ∙ so_far
