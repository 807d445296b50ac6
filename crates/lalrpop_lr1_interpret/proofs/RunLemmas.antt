-- What the machine's loop keeps, over its table: for the machine.
use Rattle.std.proofs.Common.{◌≡◌, ◌∙◌, ℕ, suc, ◌-◌, ◌<◌, ◌≤◌, Bool, true, false, List, []}
use Rattle.std.proofs.Common.{◌∷◌, ◌++◌, take, drop, length, map}
use Rattle.std.proofs.Common.{get_or, Some, None, ap, sym, refl, subst, arith, append-nil}
use Rattle.std.proofs.Common.{Contains, zero}
use Rattle.std.specs.Prelude.{slice_get}
use Rattle.std.proofs.lemmas.List.{length-drop, length-map, length-take-le, take_all}
use Rattle.lalrpop_grammar.specs.Trees.{Token}
use Rattle.lalrpop_grammar.specs.Views.{token_view}
use Rattle.lalrpop_grammar.specs.declared.token.ScanToken.{ScanToken}
use Rattle.lalrpop_grammar_symbols.specs.Symbols.{Terminal, Text}
use Rattle.lalrpop_grammar_symbols.specs.Views.{span_view, terminal_view}
use Rattle.lalrpop_grammar_symbols.specs.declared.names.NonterminalString.{NonterminalString}
use Rattle.lalrpop_grammar_symbols.specs.declared.terminal.TerminalString.{TerminalString}
use Rattle.lalrpop_lr1_core.specs.Views.{production_symbol_view, production_view}
use Rattle.lalrpop_lr1_core.proofs.NoConflictLemmas.{same_terminal}
use Rattle.lalrpop_lr1_theory.specs.CheckedStates.{AreCheckedStates}
use Rattle.lalrpop_lr1_theory.specs.Productions.{Next, Production, first, nonterminal, terminal}
use Rattle.lalrpop_lr1_theory.specs.Runs.{AcceptsWithin, Allows, PassesLimit}
use Rattle.lalrpop_lr1_theory.specs.Spans.{SpannedForest, leaf_at, leaf_spans, node_at, none_at, without_spans}
use Rattle.lalrpop_lr1_theory.specs.States.{HasEdge, HasItem, Reduces, State}
use Rattle.lalrpop_lr1_theory.specs.Trees.{Move, leaf, node, none, reduce, roots, shift, ◌and◌}
use Rattle.lalrpop_lr1_theory.specs.Automata.{Walk}
use Rattle.lalrpop_lr1_theory.proofs.CheckedLemmas.{checked_automaton}
use Rattle.lalrpop_lr1_theory.proofs.SoundnessLemmas.{can_reduce}
use Rattle.lalrpop_lr1_theory.proofs.StepLemmas.{some_same}
use Rattle.lalrpop_lr1_interpret.specs.Ends.{IsDone, MayRun, spans_of, terminals_of, token_views}
use Rattle.lalrpop_lr1_interpret.specs.Outcomes.{IsStuckAt}
use Rattle.lalrpop_lr1_interpret.specs.Stacks.{HasChildren, ◌beside◌}
use Rattle.lalrpop_lr1_interpret.specs.Tables.{HasAction, HasGoto, IsActionBefore, IsNextBy, IsNumberedProduction, IsTableOf}
use Rattle.lalrpop_lr1_interpret.specs.declared.parse.action_table.ActionTable.{ActionTable}
use Rattle.lalrpop_lr1_interpret.specs.declared.parse.table_row.NextNumber.{NextNumber}
use Rattle.lalrpop_lr1_interpret.specs.declared.parse.table_row.NextNumber.TheVariants as nexts
use Rattle.lalrpop_lr1_interpret.specs.declared.parse.table_row.NumberedProduction.{NumberedProduction}
use Rattle.lalrpop_lr1_interpret.specs.declared.parse.table_row.TableAction.{TableAction}
use Rattle.lalrpop_lr1_interpret.specs.declared.parse.table_row.TableAction.TheVariants as actions
use Rattle.lalrpop_lr1_interpret.proofs.NumberLemmas.{next_at}
use Rattle.lalrpop_lr1_interpret.proofs.ParsingLemmas.{Parsing, accepts, first_drop, keep_reduce, keep_shift}
use Rattle.lalrpop_lr1_interpret.proofs.ParsingLemmas.{limit_reduce, limit_shift, parsing_start, room, stack_behind, stuck_there}
use Rattle.lalrpop_lr1_interpret.proofs.ParsingLemmas.{top_walk, walk_in}
use Rattle.lalrpop_lr1_interpret.proofs.StackLemmas.{falls_in_two, spans-beside, states_top, without-beside}

-- Between two moves: the stack stands for trees over the first tokens, with their spans, and over any states of which the table is
-- one the run has come there.
pub record IsRunning (table : ActionTable) (tokens : List ScanToken) (limit : ℕ) (whole : Bool)
    (Made : SpannedForest → List Token → Type 0) (numbers : List ℕ) (at left : ℕ) (next : NextNumber) : Type 0 where
  pub trees : SpannedForest
  pub stands : Made trees (take at (token_views tokens))
  pub spans_are : leaf_spans trees ≡ take at (spans_of tokens)
  pub next_is : IsNextBy table (first (drop at (terminals_of tokens))) next
  pub parsing : (states : List State) → IsTableOf table states →
      Parsing states (terminals_of tokens) limit whole numbers (without_spans trees) at left

-- what is seen of one token more
taken_more : {A : Type 0} (f : ScanToken → A) (xs : List ScanToken) (i : ℕ) (x : ScanToken) → i < length xs →
    x ≡ get_or xs i x →
    take (suc i) (map f xs) ≡ take i (map f xs) ++ f x ∷ []
taken_more f [] i x j r = absurd (omega arith)
taken_more f (y ∷ xs) zero x j r = ap (λ z. f z ∷ []) (sym r)
taken_more f (y ∷ xs) (suc i) x j r = ap (λ z. f y ∷ z) (taken_more f xs i x (omega arith) r)

-- before the first move a run stands in state 0 at the first token with no tree made
pub running_start : (table : ActionTable) (tokens : List ScanToken) (limit : ℕ) (whole : Bool)
    (Made : SpannedForest → List Token → Type 0) (numbers : List ℕ) (next : NextNumber) → Made none_at [] →
    numbers ≡ 0 ∷ [] →
    IsNextBy table (first (drop 0 (terminals_of tokens))) next → IsRunning table tokens limit whole Made numbers 0 limit next
running_start table tokens limit whole Made numbers next made e n = record {
  trees = none_at;
  stands = made;
  spans_are = refl;
  next_is = n;
  parsing = λ states is. subst (λ ns. Parsing states (terminals_of tokens) limit whole ns none 0 limit) (sym e)
      (parsing_start states (terminals_of tokens) limit whole);
}

-- what a shift by number says
pub record ShiftsNext (table : ActionTable) (n : ℕ) (x : Next) (m : ℕ) : Type 0 where
  pub token : Terminal
  pub next_is : x ≡ Some token
  pub leads : (states : List State) → IsTableOf table states → HasEdge states n (terminal token) m

pub shift_says : (table : ActionTable) (n : ℕ) (x : Next) (next : NextNumber) (m : ℕ) → IsNextBy table x next →
    IsActionBefore table n next (Some (actions.Shift m)) → ShiftsNext table n x m
shift_says table n x (nexts.Terminal k) m by a = record {
  token = terminal_view by.0;
  next_is = by.1;
  leads = λ states is. is.shifts n m (terminal_view by.0)
      (record { number = k; name = by.0; action = a; at = by.2; name_is = refl });
}
shift_says table n x nexts.Unknown m by a = absurd a
shift_says table n x nexts.End m by a = absurd a

-- what a reduction by number says
pub record ReducesNext (table : ActionTable) (n : ℕ) (x : Next) (r : NumberedProduction) : Type 0 where
  pub reduces : (states : List State) → IsTableOf table states → Reduces states n (production_view r.production.now) x
  pub numbered : (states : List State) → IsTableOf table states → IsNumberedProduction table.nonterminals.keys r

pub reduce_says : (table : ActionTable) (n : ℕ) (x : Next) (next : NextNumber) (r : NumberedProduction) → IsNextBy table x next →
    IsActionBefore table n next (Some (actions.Reduce r)) → ReducesNext table n x r
reduce_says table n x (nexts.Terminal k) r by a = record {
  reduces = λ states is. subst (Reduces states n (production_view r.production.now)) (sym by.1)
      (is.reductions n (production_view r.production.now) (terminal_view by.0)
      (record { number = k; name = by.0; by = r; action = a; at = by.2; name_is = refl; production_is = refl }));
  numbered = λ states is. is.numbered n k r a;
}
reduce_says table n x nexts.Unknown r by a = absurd a
reduce_says table n x nexts.End r by a = record {
  reduces = λ states is. subst (Reduces states n (production_view r.production.now)) (sym by)
      (is.ends n (production_view r.production.now) (record { by = r; end = a; production_is = refl }));
  numbered = λ states is. is.ends_numbered n r a;
}

-- where nothing is found, the states allow nothing
pub nothing_says : (table : ActionTable) (n : ℕ) (x : Next) (next : NextNumber) → IsNextBy table x next →
    IsActionBefore table n next None → (states : List State) → IsTableOf table states → (v : Move) →
    Allows (HasEdge states) (Reduces states) n x v → ⊥
nothing_says table n x (nexts.Terminal k) by a states is v d =
    go v (subst (λ y. Allows (HasEdge states) (Reduces states) n y v) by.1 d)
  where
    same_number : (j : ℕ) (u : TerminalString) → slice_get table.terminals.keys j ≡ Some u →
        terminal_view u ≡ terminal_view by.0 → j ≡ k
    same_number j u at e =
        is.one_terminal j k by.0 (at ∙ ap Some (same_terminal u by.0 e)) by.2

    go : (w : Move) → Allows (HasEdge states) (Reduces states) n (Some (terminal_view by.0)) w → ⊥
    go (shift u) e =
        let s = is.all_shifts n e.1 (terminal_view by.0) e.2 in
        a (actions.Shift e.1)
        (subst (λ j. HasAction table n j (actions.Shift e.1)) (same_number s.number s.name s.at s.name_is) s.action)
    go (reduce p) e =
        let s = is.all_reductions n p (terminal_view by.0) e in
        a (actions.Reduce s.by)
        (subst (λ j. HasAction table n j (actions.Reduce s.by)) (same_number s.number s.name s.at s.name_is) s.action)
nothing_says table n x nexts.Unknown by a states is v d =
    go v (subst (λ y. Allows (HasEdge states) (Reduces states) n y v) by.1 d)
  where
    go : (w : Move) → Allows (HasEdge states) (Reduces states) n (Some (terminal_view by.0)) w → ⊥
    go (shift u) e =
        let s = is.all_shifts n e.1 (terminal_view by.0) e.2 in
        by.2 s.number (s.at ∙ ap Some (same_terminal s.name by.0 s.name_is))
    go (reduce p) e =
        let s = is.all_reductions n p (terminal_view by.0) e in
        by.2 s.number (s.at ∙ ap Some (same_terminal s.name by.0 s.name_is))
nothing_says table n x nexts.End by a states is v d =
    go v (subst (λ y. Allows (HasEdge states) (Reduces states) n y v) by d)
  where
    go : (w : Move) → Allows (HasEdge states) (Reduces states) n None w → ⊥
    go (shift u) e = e
    go (reduce p) e = let s = is.all_ends n p e in a s.by s.end

-- where a nonterminal leads by its number
pub goto_says : (table : ActionTable) (n m : ℕ) (r : NumberedProduction) (states : List State) → IsTableOf table states →
    IsNumberedProduction table.nonterminals.keys r → HasGoto table n r.nonterminal m →
    HasEdge states n (nonterminal (production_view r.production.now).left) m
goto_says table n m r states is numbered g =
    is.gotos n m r.production.now.nonterminal.0
    (record { number = r.nonterminal; nonterminal = r.production.now.nonterminal; leads = g; at = numbered.name; name_is = refl })

pub no_goto_says : (table : ActionTable) (n : ℕ) (r : NumberedProduction) (states : List State) → IsTableOf table states →
    IsNumberedProduction table.nonterminals.keys r → ((m : ℕ) → HasGoto table n r.nonterminal m → ⊥) → (m : ℕ) →
    HasEdge states n (nonterminal (production_view r.production.now).left) m → ⊥
no_goto_says table n r states is numbered none_there m e =
    let l = is.all_gotos n m r.production.now.nonterminal.0 e in
    let name : List ℕ → NonterminalString = λ t. record { 0 = t } in
    let same : l.nonterminal ≡ r.production.now.nonterminal = ap name l.name_is in
    let one : l.number ≡ r.nonterminal =
    is.one_nonterminal l.number r.nonterminal r.production.now.nonterminal (l.at ∙ ap Some same) numbered.name in
    none_there m (subst (λ j. HasGoto table n j m) one l.leads)

module _ (table : ActionTable) (tokens : List ScanToken) (limit : ℕ) (whole : Bool) (Made : SpannedForest → List Token → Type 0)
    (ns : List ℕ) (at left : ℕ) (next : NextNumber) (p : IsRunning table tokens limit whole Made ns at left next)
    (n : ℕ) (is_top : n ≡ get_or ns (length ns - 1) n) where
  -- the state on top is one of the table's
  pub state_there : MayRun table → n < length table.rows.items
  state_there q =
      let walk = top_walk q.states (terminals_of tokens) limit whole ns (without_spans p.trees) at left
      (p.parsing q.states q.is_table) n is_top in
      omega (arith, walk_in q.grammar q.start q.states q.checked (roots (without_spans p.trees)) n walk, q.is_table.count)

  -- a token stands at the place where a shift is made
  pub token_there : (m : ℕ) → IsActionBefore table n next (Some (actions.Shift m)) → at < length tokens
  token_there m a =
      let s = shift_says table n (first (drop at (terminals_of tokens))) next m p.next_is a in
      omega (arith, (first_drop (terminals_of tokens) at s.token s.next_is).1, length-map tokens (λ t. terminal_view t.terminal))

  pub shift_limit : (m : ℕ) → IsActionBefore table n next (Some (actions.Shift m)) → left ≡ 0 → (states : List State) →
      IsTableOf table states → PassesLimit states (terminals_of tokens) limit
  shift_limit m a l states is =
      let s = shift_says table n (first (drop at (terminals_of tokens))) next m p.next_is a in
      limit_shift states (terminals_of tokens) limit whole ns (without_spans p.trees) at left (p.parsing states is) n is_top m s.token
      l s.next_is (s.leads states is)

  pub shift_on : (m left' at' : ℕ) (ns' : List ℕ) (t : ScanToken) (next' : NextNumber)
      (Made' : SpannedForest → List Token → Type 0) →
      at' ≡ suc at → IsActionBefore table n next (Some (actions.Shift m)) → left ≡ suc left' → t ≡ get_or tokens at t →
      ns' ≡ ns ++ m ∷ [] →
      ((ts : SpannedForest) (ks : List Token) → Made ts ks →
      Made' (ts beside leaf_at (terminal_view t.terminal) (span_view t.span) none_at) (ks ++ token_view t ∷ [])) →
      IsNextBy table (first (drop at' (terminals_of tokens))) next' →
      IsRunning table tokens limit whole Made' ns' at' left' next'
  shift_on m left' at' ns' t next' Made' more a l read e made next_is' =
      let s = shift_says table n (first (drop at (terminals_of tokens))) next m p.next_is a in
      let h : at < length tokens = token_there m a in
      let same : s.token ≡ terminal_view t.terminal = some_same s.token (terminal_view t.terminal) (sym s.next_is
      ∙ next_at tokens at t h read) in
      record {
        trees = p.trees beside leaf_at (terminal_view t.terminal) (span_view t.span) none_at;
        stands = subst (Made' (p.trees beside leaf_at (terminal_view t.terminal) (span_view t.span) none_at))
            (sym (taken_more token_view tokens at t h read) ∙ ap (λ i. take i (token_views tokens)) (sym more))
            (made p.trees (take at (token_views tokens)) p.stands);
        spans_are = spans-beside p.trees (leaf_at (terminal_view t.terminal) (span_view t.span) none_at)
            ∙ ap (λ l. l ++ span_view t.span ∷ []) p.spans_are ∙ sym (taken_more (λ k. span_view k.span) tokens at t h read)
            ∙ ap (λ i. take i (spans_of tokens)) (sym more);
        next_is = next_is';
        parsing = λ states is.
            let k : Parsing states (terminals_of tokens) limit whole ns' (without_spans p.trees and leaf s.token none) (suc at) left' =
            keep_shift states (terminals_of tokens) limit whole ns (without_spans p.trees) at left (p.parsing states is) n is_top
            m left' ns' s.token l s.next_is (s.leads states is) e in
            subst (λ i. Parsing states (terminals_of tokens) limit whole ns'
            (without_spans (p.trees beside leaf_at (terminal_view t.terminal) (span_view t.span) none_at)) i left') (sym more)
            (subst (λ f. Parsing states (terminals_of tokens) limit whole ns' f (suc at) left')
            (ap (λ u. without_spans p.trees and leaf u none) same
            ∙ sym (without-beside p.trees (leaf_at (terminal_view t.terminal) (span_view t.span) none_at)))
            k);
      }

  -- where nothing is done, the run is stuck
  pub is_stuck : IsActionBefore table n next None → (states : List State) → IsTableOf table states →
      IsStuckAt states (terminals_of tokens) limit at n
  is_stuck a states is =
      stuck_there states (terminals_of tokens) limit whole ns (without_spans p.trees) at left (p.parsing states is) n is_top
      (nothing_says table n (first (drop at (terminals_of tokens))) next p.next_is a states is)

  module _ (q : MayRun table) (r : NumberedProduction) (a : IsActionBefore table n next (Some (actions.Reduce r))) where
    -- the trees end with the children of a node by the production
    pub has_children : HasChildren (λ ts _. p.trees ≡ ts) (production_view r.production.now)
    has_children =
        let says = reduce_says table n (first (drop at (terminals_of tokens))) next r p.next_is a in
        let walk = top_walk q.states (terminals_of tokens) limit whole ns (without_spans p.trees) at left
        (p.parsing q.states q.is_table) n is_top in
        let c = can_reduce (Contains q.grammar) q.start (HasItem q.states) (HasEdge q.states) (Reduces q.states)
        (checked_automaton q.grammar q.start q.states q.checked) (without_spans p.trees) n (production_view r.production.now)
        (first (drop at (terminals_of tokens))) walk (says.reduces q.states q.is_table) in
        let t = falls_in_two p.trees c.kept c.children c.parts in
        record {
          kept = t.front;
          children = t.back;
          tokens = take at (token_views tokens);
          stands = t.parts;
          roots_are = ap roots t.back_is ∙ c.roots_are;
        }

    module _ (kept children : SpannedForest) (parts : p.trees ≡ kept beside children)
        (roots_are : roots (without_spans children) ≡ (production_view r.production.now).right) where
      bare : without_spans p.trees ≡ without_spans kept and without_spans children
      bare = ap without_spans parts ∙ without-beside kept children

      counted : r.length ≡ length (production_view r.production.now).right
      counted =
          let says = reduce_says table n (first (drop at (terminals_of tokens))) next r p.next_is a in
          (says.numbered q.states q.is_table).count ∙ sym (length-map r.production.now.symbols production_symbol_view)

      pub enough : r.length < length ns
      enough =
          let says = reduce_says table n (first (drop at (terminals_of tokens))) next r p.next_is a in
          omega (
            arith,
            counted,
            room q.states (terminals_of tokens) limit whole ns (without_spans p.trees) at left (p.parsing q.states q.is_table) n is_top
                (production_view r.production.now) (without_spans kept) (without_spans children) bare roots_are
                (says.reduces q.states q.is_table),
          )

      pub reduce_limit : left ≡ 0 → (states : List State) → IsTableOf table states → PassesLimit states (terminals_of tokens) limit
      reduce_limit l states is =
          let says = reduce_says table n (first (drop at (terminals_of tokens))) next r p.next_is a in
          limit_reduce states (terminals_of tokens) limit whole ns (without_spans p.trees) at left (p.parsing states is) n is_top
          (production_view r.production.now) (without_spans kept) (without_spans children) bare roots_are (says.reduces states is) l

      -- the state under the children
      pub walk_behind : (k n2 : ℕ) → k ≡ length ns - r.length → n2 ≡ get_or (take k ns) (length (take k ns) - 1) n2 →
          (states : List State) → IsTableOf table states → Walk (HasEdge states) (roots (without_spans kept)) n2
      walk_behind k n2 e read states is =
          let says = reduce_says table n (first (drop at (terminals_of tokens))) next r p.next_is a in
          states_top (HasEdge states) (take k ns) (roots (without_spans kept)) n2
          (stack_behind states (terminals_of tokens) limit whole ns (without_spans p.trees) at left (p.parsing states is) n is_top
          (production_view r.production.now) (without_spans kept) (without_spans children) bare roots_are (says.reduces states is) k
          (e ∙ ap (λ j. length ns - j) counted))
          read

      pub behind_there : (k n2 : ℕ) → k ≡ length ns - r.length → n2 ≡ get_or (take k ns) (length (take k ns) - 1) n2 →
          n2 < length table.rows.items
      behind_there k n2 e read =
          omega (
            arith,
            walk_in q.grammar q.start q.states q.checked (roots (without_spans kept)) n2
                (walk_behind k n2 e read q.states q.is_table),
            q.is_table.count,
          )

      pub reduce_on : (k n2 m left' : ℕ) (ns' : List ℕ) (Made' : SpannedForest → List Token → Type 0) → left ≡ suc left' →
          k ≡ length ns - r.length → n2 ≡ get_or (take k ns) (length (take k ns) - 1) n2 → HasGoto table n2 r.nonterminal m →
          ns' ≡ take k ns ++ m ∷ [] →
          Made' (kept beside node_at (production_view r.production.now) children none_at) (take at (token_views tokens)) →
          (whole ≡ false → at ≡ length tokens → ⊥) → IsRunning table tokens limit whole Made' ns' at left' next
      reduce_on k n2 m left' ns' Made' l e read g z made early =
          let says = reduce_says table n (first (drop at (terminals_of tokens))) next r p.next_is a in
          record {
            trees = kept beside node_at (production_view r.production.now) children none_at;
            stands = made;
            spans_are = spans_same ∙ p.spans_are;
            next_is = p.next_is;
            parsing = λ states is.
                subst (λ f. Parsing states (terminals_of tokens) limit whole ns' f at left')
                (sym (without-beside kept (node_at (production_view r.production.now) children none_at)))
                (keep_reduce states (terminals_of tokens) limit whole ns (without_spans p.trees) at left (p.parsing states is) n is_top
                (production_view r.production.now) (without_spans kept) (without_spans children) bare roots_are
                (says.reduces states is) k m n2 left' ns' l (e ∙ ap (λ j. length ns - j) counted)
                (walk_behind k n2 e read states is)
                (goto_says table n2 m r states is (says.numbered states is) g) z
                (λ partly ended. early partly (ended ∙ length-map tokens (λ t. terminal_view t.terminal))));
          }
        where
          spans_same : leaf_spans (kept beside node_at (production_view r.production.now) children none_at) ≡ leaf_spans p.trees
          spans_same =
              spans-beside kept (node_at (production_view r.production.now) children none_at)
              ∙ ap (λ l. leaf_spans kept ++ l) (append-nil (leaf_spans children))
              ∙ sym (ap leaf_spans parts ∙ spans-beside kept children)

      -- where the nonterminal leads nowhere, the run is done
      pub done : (grammar : List Production) (s : Text) (states : List State) → AreCheckedStates grammar s states →
          IsTableOf table states → (k n2 left' : ℕ) (numbers : List ℕ) (Made' : SpannedForest → List Token → Type 0) →
          left ≡ suc left' →
          k ≡ length ns - r.length → n2 ≡ get_or (take k ns) (length (take k ns) - 1) n2 →
          ((m : ℕ) → HasGoto table n2 r.nonterminal m → ⊥) →
          Made' (kept beside node_at (production_view r.production.now) children none_at) (take at (token_views tokens)) →
          (whole ≡ false → at ≡ length tokens → ⊥) → IsDone states s tokens limit Made' numbers whole
      done grammar s states ok is k n2 left' numbers Made' l e read none_there made early = go whole refl
        where
          says : ReducesNext table n (first (drop at (terminals_of tokens))) r
          says = reduce_says table n (first (drop at (terminals_of tokens))) next r p.next_is a

          ended : (without_spans kept ≡ none) × (drop at (terminals_of tokens) ≡ [])
              × AcceptsWithin states s (terminals_of tokens) limit
              (without_spans kept and node (production_view r.production.now) (without_spans children) none)
          ended =
              accepts states (terminals_of tokens) limit whole ns (without_spans p.trees) at left (p.parsing states is) n is_top
              (production_view r.production.now) (without_spans kept) (without_spans children) bare roots_are (says.reduces states is)
              grammar s ok n2 left' l (walk_behind k n2 e read states is)
              (no_goto_says table n2 r states is (says.numbered states is) none_there)

          all_there : at ≡ length tokens
          all_there =
              omega (
                arith,
                ap length ended.1,
                length-drop at (terminals_of tokens),
                (p.parsing states is).within,
                length-map tokens (λ t. terminal_view t.terminal),
              )

          all_taken : {A : Type 0} (f : ScanToken → A) → take at (map f tokens) ≡ map f tokens
          all_taken f = take_all at (map f tokens) (omega (arith, all_there, length-map tokens f))

          go : (b : Bool) → whole ≡ b → IsDone states s tokens limit Made' numbers b
          go false partly = absurd (early partly all_there)
          go true whole_is = record {
            trees = kept beside node_at (production_view r.production.now) children none_at;
            stands = subst (Made' (kept beside node_at (production_view r.production.now) children none_at)) (all_taken token_view) made;
            accepts = subst (AcceptsWithin states s (terminals_of tokens) limit)
                (sym (without-beside kept (node_at (production_view r.production.now) children none_at))) ended.2;
            spans_are =
                spans-beside kept (node_at (production_view r.production.now) children none_at)
                ∙ ap (λ l. leaf_spans kept ++ l) (append-nil (leaf_spans children))
                ∙ sym (ap leaf_spans parts ∙ spans-beside kept children)
                ∙ p.spans_are ∙ all_taken (λ k. span_view k.span);
          }

  -- where no move is left, the next one would pass the limit
  pub move_limit : MayRun table → (a : TableAction) → IsActionBefore table n next (Some a) → left ≡ 0 → (states : List State) →
      IsTableOf table states → PassesLimit states (terminals_of tokens) limit
  move_limit q (actions.Shift m) a l states is = shift_limit m a l states is
  move_limit q (actions.Reduce r) a l states is =
      let k = has_children q r a in reduce_limit q r a k.kept k.children k.stands k.roots_are l states is

-- the number on top, as it is read
pub as_read : (ns : List ℕ) (n j : ℕ) → n ≡ get_or ns j n → j ≡ length ns - 1 → n ≡ get_or ns (length ns - 1) n
as_read ns n j e h = e ∙ ap (λ i. get_or ns i n) h

-- the number on top of those that are left, as it is read
pub read_behind : (ns ns' : List ℕ) (k n j : ℕ) → ns' ≡ take k ns → k ≤ length ns → n ≡ get_or ns' j n → j ≡ k - 1 →
    n ≡ get_or (take k ns) (length (take k ns) - 1) n
read_behind ns ns' k n j e h read i =
    read ∙ ap (λ l. get_or l j n) e ∙ ap (λ l. get_or (take k ns) l n) (i ∙ ap (λ l. l - 1) (sym (length-take-le k ns h)))

-- a test can't be true and false at once
pub not_both : (b : Bool) → b ≡ true → b ≡ false → ⊥
not_both b is_true is_false = let z : true ≡ false = sym is_true ∙ is_false in let w : ⊥ = cc in w
