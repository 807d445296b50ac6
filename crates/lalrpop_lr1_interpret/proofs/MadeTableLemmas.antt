-- A table whose lists are the entries of states says what the states say: for the table of actions.
use Rattle.std.proofs.Common.{◌≡◌, ◌∙◌, ℕ, ◌≤◌}
use Rattle.std.proofs.Common.{List}
use Rattle.std.proofs.Common.{length, map, filter, Some, None, Contains, ap, sym}
use Rattle.std.proofs.Common.{refl, subst}
use Rattle.std.proofs.Common.{arith}
use Rattle.std.specs.Borrow.{Bor}
use Rattle.std.specs.Prelude.{flat_map, slice_get}
use Rattle.std.proofs.lemmas.List.{length-map}
use Rattle.std.proofs.lemmas.Option.{slice_get_within}
use Rattle.lalrpop_grammar_symbols.specs.Symbols.{Text, Terminal}
use Rattle.lalrpop_grammar_symbols.specs.Views.{terminal_view}
use Rattle.lalrpop_grammar_symbols.specs.declared.terminal.TerminalString.{TerminalString}
use Rattle.lalrpop_grammar_repr.specs.declared.production.Production.{Production}
use Rattle.lalrpop_grammar_repr.specs.declared.terminal_set.TerminalSet.{TerminalSet}
use Rattle.lalrpop_lr1_theory.specs.Productions as theory
use Rattle.lalrpop_lr1_theory.specs.States as theory_states
use Rattle.lalrpop_lr1_theory.specs.States.{HasEdge, Reduces}
use Rattle.lalrpop_lr1_theory.proofs.StepLemmas.{some_same}
use Rattle.lalrpop_sets.specs.AscendingLists.{has}
use Rattle.lalrpop_sets.specs.Tokens.{eof_number}
use Rattle.lalrpop_lr1_core.specs.Views.{goto_view, lr_state_view, production_view, reduction_view, shift_view}
use Rattle.lalrpop_lr1_core.specs.Views.{token_lookahead}
use Rattle.lalrpop_lr1_core.specs.declared.state.State.{State}
use Rattle.lalrpop_lr1_core.proofs.MemberLemmas.{filter_has, in_filter, in_map, map_has}
use Rattle.lalrpop_lr1_core.proofs.NoConflictLemmas.{at_mapped, mapped_at}
use Rattle.lalrpop_lr1_interpret.specs.Rows.{IsActionOf, end_productions}
use Rattle.lalrpop_lr1_interpret.specs.Rows.{goto_entries, goto_entry, part_at, row_at, terminal_entries}
use Rattle.lalrpop_lr1_interpret.specs.Tables.{AreRowsWithin, HasAction, IsNumberedProduction, IsPlaceIn}
use Rattle.lalrpop_lr1_interpret.specs.Tables.{IsTableOf, LeadsByNumber, ReducesAtEnd, ReducesByNumber, ShiftsByNumber}
use Rattle.lalrpop_lr1_interpret.specs.declared.parse.action_table.ActionTable.{ActionTable}
use Rattle.lalrpop_lr1_interpret.specs.declared.parse.entries.Act.{Act}
use Rattle.lalrpop_lr1_interpret.specs.declared.parse.entries.Act.TheVariants as acts
use Rattle.lalrpop_lr1_interpret.specs.declared.parse.table_row.NumberedProduction.{NumberedProduction}
use Rattle.lalrpop_lr1_interpret.specs.declared.parse.table_row.TableAction.{TableAction}
use Rattle.lalrpop_lr1_interpret.specs.declared.parse.table_row.TableAction.TheVariants as actions
use Rattle.lalrpop_lr1_interpret.specs.declared.parse.table_row.TableRow.{TableRow}
use Rattle.lalrpop_lr1_interpret.specs.MadeTables.{IsMadeOf}
use Rattle.lalrpop_lr1_interpret.proofs.TableLemmas.{actions_at, actions_back, actions_long, end_next, get_there, in_part, next_end}
use Rattle.lalrpop_lr1_interpret.proofs.TableLemmas.{next_terminal, numbers_at, numbers_back, numbers_long, part_has, part_within}
use Rattle.lalrpop_lr1_interpret.proofs.TableLemmas.{productions_at, productions_back, productions_long, reduction_is, reduction_there}
use Rattle.lalrpop_lr1_interpret.proofs.TableLemmas.{shift_is, shift_there, terminal_next}

module _ (table : ActionTable) (ts : TerminalSet) (states : List (State (List ℕ))) (made : IsMadeOf table ts states) where
  Seen : List theory_states.State
  Seen = map (lr_state_view (token_lookahead ts)) states

  -- the state of a row
  pub record StateOf (n : ℕ) (row : TableRow) : Type 0 where
    pub state : State (List ℕ)
    pub at : slice_get states n ≡ Some state
    pub seen : slice_get (map (lr_state_view (token_lookahead ts)) states) n ≡ Some (lr_state_view (token_lookahead ts) state)
    pub row_is : row ≡ row_at ts states n

  state_of : (n : ℕ) (row : TableRow) → slice_get table.rows.items n ≡ Some row → StateOf n row
  state_of n row e =
      let h = slice_get_within table.rows.items n row e in
      let g = get_there states n (omega (arith, h, made.count)) in
      record {
        state = g.0;
        at = g.1;
        seen = mapped_at (lr_state_view (token_lookahead ts)) states n g.0 g.1;
        row_is = some_same row (row_at ts states n) (sym e ∙ made.rows n h);
      }

  row_of : (n : ℕ) (state : State (List ℕ)) → slice_get states n ≡ Some state →
      slice_get table.rows.items n ≡ Some (row_at ts states n)
  row_of n state e = made.rows n (omega (arith, slice_get_within states n state e, made.count))

  -- the entry of an action
  pub record EntryOf (n k : ℕ) (b : TableAction) : Type 0 where
    pub state : State (List ℕ)
    pub seen : slice_get (map (lr_state_view (token_lookahead ts)) states) n ≡ Some (lr_state_view (token_lookahead ts) state)
    pub name : TerminalString
    pub act : Act
    pub held : Contains (terminal_entries ts state) (name, act)
    pub number : slice_get table.terminals.keys k ≡ Some name
    pub by : IsActionOf table.nonterminals.keys act b

  entry_of : (n k : ℕ) (b : TableAction) → HasAction table n k b → EntryOf n k b
  entry_of n k b a =
      let s = state_of n a.row a.at in
      let E = flat_map (terminal_entries ts) states in
      let x = numbers_back table.terminals.keys (map (λ e. e.0) E) table.keys.items a.place k made.keys a.key in
      let y = actions_back table.nonterminals.keys (map (λ e. e.1) E) table.actions.items a.place b made.actions a.action in
      let u = at_mapped (λ e. e.0) E a.place x.0 x.1 in
      let v = at_mapped (λ e. e.1) E a.place y.0 y.1 in
      let one : u.0 ≡ v.0 = some_same u.0 v.0 (sym u.1 ∙ v.1) in
      let inside : IsPlaceIn (part_at (terminal_entries ts) states n) a.place =
      subst (λ r. IsPlaceIn r.actions a.place) s.row_is a.inside in
      let held = in_part (terminal_entries ts) states n s.state a.place u.0 s.at inside u.1 in
      record {
        state = s.state;
        seen = s.seen;
        name = u.0.0;
        act = u.0.1;
        held = held;
        number = x.2 ∙ ap Some (sym u.2);
        by = subst (λ w. IsActionOf table.nonterminals.keys w b) (sym (ap (λ e. e.1) one ∙ v.2)) y.2;
      }

  -- the action of an entry
  pub record ActionOf (n : ℕ) (name : TerminalString) (act : Act) : Type 0 where
    pub number : ℕ
    pub action : TableAction
    pub there : HasAction table n number action
    pub number_is : slice_get table.terminals.keys number ≡ Some name
    pub by : IsActionOf table.nonterminals.keys act action

  action_of : (n : ℕ) (state : State (List ℕ)) (name : TerminalString) (act : Act) → slice_get states n ≡ Some state →
      Contains (terminal_entries ts state) (name, act) → ActionOf n name act
  action_of n state name act e c =
      let E = flat_map (terminal_entries ts) states in
      let p = part_has (terminal_entries ts) states n state (name, act) e c in
      let x = numbers_at table.terminals.keys (map (λ e. e.0) E) table.keys.items p.0 name made.keys
      (mapped_at (λ e. e.0) E p.0 (name, act) p.2) in
      let y = actions_at table.nonterminals.keys (map (λ e. e.1) E) table.actions.items p.0 act made.actions
      (mapped_at (λ e. e.1) E p.0 (name, act) p.2) in
      record {
        number = x.0;
        action = y.0;
        there = record {
          row = row_at ts states n;
          place = p.0;
          at = row_of n state e;
          inside = p.1;
          key = x.1;
          action = y.1;
        };
        number_is = x.2;
        by = y.2;
      }

  edge_there : (n m : ℕ) (t : Terminal) (state : State (List ℕ)) (name : TerminalString) →
      slice_get (map (lr_state_view (token_lookahead ts)) states) n ≡ Some (lr_state_view (token_lookahead ts) state) →
      terminal_view name ≡ t → Contains state.shifts (name, (record { 0 = m })) →
      HasEdge (map (lr_state_view (token_lookahead ts)) states) n (theory.terminal t) m
  edge_there n m t state name seen e c = (
    lr_state_view (token_lookahead ts) state,
    seen,
    subst (λ x. Contains (map shift_view state.shifts) (x, m)) e (map_has shift_view state.shifts (name, (record { 0 = m })) c),
  )

  shifts_are : (n m : ℕ) (t : Terminal) → ShiftsByNumber table n t m →
      HasEdge (map (lr_state_view (token_lookahead ts)) states) n (theory.terminal t) m
  shifts_are n m t s =
      let e = entry_of n s.number (actions.Shift m) s.action in
      let same : e.name ≡ s.name = some_same e.name s.name (sym e.number ∙ s.at) in
      edge_there n m t e.state e.name e.seen (ap terminal_view same ∙ s.name_is)
      (shift_is ts e.state e.name m (subst (λ a. Contains (terminal_entries ts e.state) (e.name, a)) (is_shift e.act e.by) e.held))
    where
      is_shift : (a : Act) → IsActionOf table.nonterminals.keys a (actions.Shift m) → a ≡ acts.Shift m
      is_shift (acts.Shift j) h = ap acts.Shift (sym h)
      is_shift (acts.Reduce p) h = absurd h

  all_shifts_are : (n m : ℕ) (t : Terminal) → HasEdge (map (lr_state_view (token_lookahead ts)) states) n (theory.terminal t) m →
      ShiftsByNumber table n t m
  all_shifts_are n m t e =
      let s = at_mapped (lr_state_view (token_lookahead ts)) states n e.0 e.1 in
      let held : Contains (map shift_view s.0.shifts) (t, m) = subst (λ v. Contains v.shifts (t, m)) (sym s.2) e.2 in
      let x = in_map shift_view s.0.shifts (t, m) held in
      let a = action_of n s.0 x.0.0 (acts.Shift x.0.1.0) s.1 (shift_there ts s.0 x.0 x.1) in
      record {
        number = a.number;
        name = x.0.0;
        action = subst (HasAction table n a.number) (is_shift a.action (ap (λ p. p.1) x.2) a.by) a.there;
        at = a.number_is;
        name_is = ap (λ p. p.0) x.2;
      }
    where
      is_shift : {j : ℕ} (b : TableAction) → j ≡ m → IsActionOf table.nonterminals.keys (acts.Shift j) b → b ≡ actions.Shift m
      is_shift (actions.Shift k) f h = ap actions.Shift (h ∙ f)
      is_shift (actions.Reduce r) f h = absurd h

  -- the entry of a reduction
  reduce_is : (a : Act) (r : NumberedProduction) → IsActionOf table.nonterminals.keys a (actions.Reduce r) →
      (a ≡ acts.Reduce r.production) × IsNumberedProduction table.nonterminals.keys r
  reduce_is (acts.Shift j) r h = absurd h
  reduce_is (acts.Reduce p) r h = (ap acts.Reduce (sym h.0), h.1)

  reductions_are : (n : ℕ) (p : theory.Production) (t : Terminal) → ReducesByNumber table n p t →
      Reduces (map (lr_state_view (token_lookahead ts)) states) n p (Some t)
  reductions_are n p t s =
      let e = entry_of n s.number (actions.Reduce s.by) s.action in
      let same : e.name ≡ s.name = some_same e.name s.name (sym e.number ∙ s.at) in
      let b = reduce_is e.act s.by e.by in
      let r = reduction_is ts e.state e.name s.by.production
      (subst (λ a. Contains (terminal_entries ts e.state) (e.name, a)) b.0 e.held) in
      record {
        state = lr_state_view (token_lookahead ts) e.state;
        lookahead = token_lookahead ts r.set;
        at = e.seen;
        held = subst (λ q. Contains (map (reduction_view (token_lookahead ts)) e.state.reductions)
            (record { production = q; lookahead = token_lookahead ts r.set })) s.production_is
            (map_has (reduction_view (token_lookahead ts)) e.state.reductions (r.set, s.by.production) r.held);
        follows = subst (λ x. Contains (token_lookahead ts r.set).nexts (Some x)) (ap terminal_view same ∙ s.name_is)
            (terminal_next ts r.set e.name r.token);
      }

  all_reductions_are : (n : ℕ) (p : theory.Production) (t : Terminal) →
      Reduces (map (lr_state_view (token_lookahead ts)) states) n p (Some t) → ReducesByNumber table n p t
  all_reductions_are n p t s =
      let x = at_mapped (lr_state_view (token_lookahead ts)) states n s.state s.at in
      let held : Contains (map (reduction_view (token_lookahead ts)) x.0.reductions) (record { production = p; lookahead = s.lookahead }) =
      subst (λ v. Contains v.reductions (record { production = p; lookahead = s.lookahead })) (sym x.2) s.held in
      let r = in_map (reduction_view (token_lookahead ts)) x.0.reductions (record { production = p; lookahead = s.lookahead }) held in
      let look : token_lookahead ts r.0.0 ≡ s.lookahead = ap (λ v. v.lookahead) r.2 in
      let u = next_terminal ts r.0.0 t (subst (λ l. Contains l.nexts (Some t)) (sym look) s.follows) in
      let a = action_of n x.0 u.0 (acts.Reduce r.0.1) x.1 (reduction_there ts x.0 r.0 u.0 r.1 u.1) in
      let b = is_reduce a.action r.0.1 a.by in
      record {
        number = a.number;
        name = u.0;
        by = b.0;
        action = subst (HasAction table n a.number) b.1 a.there;
        at = a.number_is;
        name_is = u.2;
        production_is = ap (λ q. production_view q.now) b.2 ∙ ap (λ v. v.production) r.2;
      }
    where
      is_reduce : (b : TableAction) (q : Bor Production) → IsActionOf table.nonterminals.keys (acts.Reduce q) b →
          (r : NumberedProduction) × (b ≡ actions.Reduce r) × (r.production ≡ q)
      is_reduce (actions.Shift k) q h = absurd h
      is_reduce (actions.Reduce r) q h = (r, refl, h.0)

  ends_are : (n : ℕ) (p : theory.Production) → ReducesAtEnd table n p →
      Reduces (map (lr_state_view (token_lookahead ts)) states) n p None
  ends_are n p s =
      let x = state_of n s.end.row s.end.at in
      let b = productions_back table.nonterminals.keys (flat_map (end_productions ts) states) table.ends.items s.end.place s.by
      made.ends s.end.end in
      let inside : IsPlaceIn (part_at (end_productions ts) states n) s.end.place =
      subst (λ r. IsPlaceIn r.ends s.end.place) x.row_is s.end.inside in
      let held = in_part (end_productions ts) states n x.state s.end.place b.0 x.at inside b.1 in
      let r = in_map (λ r. r.1) (filter (λ r. has r.0 (eof_number ts)) x.state.reductions) b.0 held in
      let f = in_filter (λ r. has r.0 (eof_number ts)) x.state.reductions r.0 r.1 in
      record {
        state = lr_state_view (token_lookahead ts) x.state;
        lookahead = token_lookahead ts r.0.0;
        at = x.seen;
        held = subst (λ q. Contains (map (reduction_view (token_lookahead ts)) x.state.reductions)
            (record { production = q; lookahead = token_lookahead ts r.0.0 }))
            (ap (λ q. production_view q.now) (r.2 ∙ sym b.2) ∙ s.production_is)
            (map_has (reduction_view (token_lookahead ts)) x.state.reductions r.0 f.1);
        follows = end_next ts r.0.0 f.0;
      }

  all_ends_are : (n : ℕ) (p : theory.Production) → Reduces (map (lr_state_view (token_lookahead ts)) states) n p None →
      ReducesAtEnd table n p
  all_ends_are n p s =
      let x = at_mapped (lr_state_view (token_lookahead ts)) states n s.state s.at in
      let held : Contains (map (reduction_view (token_lookahead ts)) x.0.reductions) (record { production = p; lookahead = s.lookahead }) =
      subst (λ v. Contains v.reductions (record { production = p; lookahead = s.lookahead })) (sym x.2) s.held in
      let r = in_map (reduction_view (token_lookahead ts)) x.0.reductions (record { production = p; lookahead = s.lookahead }) held in
      let look : token_lookahead ts r.0.0 ≡ s.lookahead = ap (λ v. v.lookahead) r.2 in
      let h = next_end ts r.0.0 (subst (λ l. Contains l.nexts None) (sym look) s.follows) in
      let c = map_has (λ r. r.1) (filter (λ r. has r.0 (eof_number ts)) x.0.reductions) r.0
      (filter_has (λ r. has r.0 (eof_number ts)) x.0.reductions r.0 h r.1) in
      let q = part_has (end_productions ts) states n x.0 r.0.1 x.1 c in
      let b = productions_at table.nonterminals.keys (flat_map (end_productions ts) states) table.ends.items q.0 r.0.1 made.ends q.2 in
      record {
        by = b.0;
        end = record { row = row_at ts states n; place = q.0; at = row_of n x.0 x.1; inside = q.1; end = b.1 };
        production_is = ap (λ q. production_view q.now) b.2 ∙ ap (λ v. v.production) r.2;
      }

  gotos_are : (n m : ℕ) (name : Text) → LeadsByNumber table n name m →
      HasEdge (map (lr_state_view (token_lookahead ts)) states) n (theory.nonterminal name) m
  gotos_are n m name s =
      let g = s.leads in
      let x = state_of n g.row g.at in
      let G = flat_map goto_entries states in
      let u = numbers_back table.nonterminals.keys (map (λ e. e.0) G) table.goto_keys.items g.place s.number made.goto_keys g.key in
      let v = at_mapped (λ e. e.0) G g.place u.0 u.1 in
      let target : slice_get (map (λ e. e.1) G) g.place ≡ Some m = ap (λ l. slice_get l g.place) (sym made.targets) ∙ g.target in
      let w = at_mapped (λ e. e.1) G g.place m target in
      let one : v.0 ≡ w.0 = some_same v.0 w.0 (sym v.1 ∙ w.1) in
      let inside : IsPlaceIn (part_at goto_entries states n) g.place = subst (λ r. IsPlaceIn r.gotos g.place) x.row_is g.inside in
      let held = in_part goto_entries states n x.state g.place v.0 x.at inside v.1 in
      let r = in_map goto_entry x.state.gotos v.0 held in
      let same : v.0.0 ≡ s.nonterminal = some_same v.0.0 s.nonterminal (ap Some v.2 ∙ sym u.2 ∙ s.at) in
      let text : r.0.0.0 ≡ name = ap (λ e. e.0.0) r.2 ∙ ap (λ a. a.0) same ∙ s.name_is in
      let to : r.0.1.0 ≡ m = ap (λ e. e.1) r.2 ∙ ap (λ e. e.1) one ∙ w.2 in (
        lr_state_view (token_lookahead ts) x.state,
        x.seen,
        subst (λ y. Contains (map goto_view x.state.gotos) (y, m)) text
            (subst (λ y. Contains (map goto_view x.state.gotos) (r.0.0.0, y)) to (map_has goto_view x.state.gotos r.0 r.1)),
      )

  all_gotos_are : (n m : ℕ) (name : Text) → HasEdge (map (lr_state_view (token_lookahead ts)) states) n (theory.nonterminal name) m →
      LeadsByNumber table n name m
  all_gotos_are n m name e =
      let s = at_mapped (lr_state_view (token_lookahead ts)) states n e.0 e.1 in
      let held : Contains (map goto_view s.0.gotos) (name, m) = subst (λ v. Contains v.gotos (name, m)) (sym s.2) e.2 in
      let x = in_map goto_view s.0.gotos (name, m) held in
      let G = flat_map goto_entries states in
      let p = part_has goto_entries states n s.0 (goto_entry x.0) s.1 (map_has goto_entry s.0.gotos x.0 x.1) in
      let k = numbers_at table.nonterminals.keys (map (λ e. e.0) G) table.goto_keys.items p.0 x.0.0 made.goto_keys
      (mapped_at (λ e. e.0) G p.0 (goto_entry x.0) p.2) in
      record {
        number = k.0;
        nonterminal = x.0.0;
        leads = record {
          row = row_at ts states n;
          place = p.0;
          at = row_of n s.0 s.1;
          inside = p.1;
          key = k.1;
          target = ap (λ l. slice_get l p.0) made.targets ∙ mapped_at (λ e. e.1) G p.0 (goto_entry x.0) p.2 ∙ ap (λ v. Some v.1) x.2;
        };
        at = k.2;
        name_is = ap (λ v. v.0) x.2;
      }

  rows_within : AreRowsWithin table
  rows_within = record {
    rows = λ n row e.
        let s = state_of n row e in
        record {
          actions = subst (λ r. r.actions.past ≤ length table.keys.items) (sym s.row_is)
              (omega (arith, part_within (terminal_entries ts) states n, long_keys));
          ends = subst (λ r. r.ends.past ≤ length table.ends.items) (sym s.row_is)
              (omega (
                arith,
                part_within (end_productions ts) states n,
                productions_long table.nonterminals.keys (flat_map (end_productions ts) states) table.ends.items made.ends,
              ));
          gotos = subst (λ r. r.gotos.past ≤ length table.goto_keys.items) (sym s.row_is)
              (omega (arith, part_within goto_entries states n, long_gotos));
        };
    actions =
        actions_long table.nonterminals.keys (map (λ e. e.1) (flat_map (terminal_entries ts) states)) table.actions.items made.actions
        ∙ length-map (flat_map (terminal_entries ts) states) (λ e. e.1) ∙ sym long_keys;
    targets = ap length made.targets ∙ length-map (flat_map goto_entries states) (λ e. e.1) ∙ sym long_gotos;
  }
    where
      long_keys : length table.keys.items ≡ length (flat_map (terminal_entries ts) states)
      long_keys =
          numbers_long table.terminals.keys (map (λ e. e.0) (flat_map (terminal_entries ts) states)) table.keys.items made.keys
          ∙ length-map (flat_map (terminal_entries ts) states) (λ e. e.0)

      long_gotos : length table.goto_keys.items ≡ length (flat_map goto_entries states)
      long_gotos =
          numbers_long table.nonterminals.keys (map (λ e. e.0) (flat_map goto_entries states)) table.goto_keys.items made.goto_keys
          ∙ length-map (flat_map goto_entries states) (λ e. e.0)

  pub made_is_table : IsTableOf table (map (lr_state_view (token_lookahead ts)) states)
  made_is_table = record {
    within = rows_within;
    count = made.count ∙ sym (length-map states (lr_state_view (token_lookahead ts)));
    one_terminal = made.one_terminal;
    one_nonterminal = made.one_nonterminal;
    shifts = shifts_are;
    all_shifts = all_shifts_are;
    reductions = reductions_are;
    all_reductions = all_reductions_are;
    ends = ends_are;
    all_ends = all_ends_are;
    gotos = gotos_are;
    all_gotos = all_gotos_are;
    numbered = λ n k r a. let e = entry_of n k (actions.Reduce r) a in (reduce_is e.act r e.by).1;
    ends_numbered = λ n r e.
        (productions_back table.nonterminals.keys (flat_map (end_productions ts) states) table.ends.items e.place r made.ends e.end).3;
  }
