-- Rows and numbers, state by state and place by place: for entries of states and their numbers.
use Rattle.std.proofs.Common.{◌≡◌, ◌∙◌, ℕ, zero, suc, ◌+◌, ◌<◌, ◌≤◌, ◌⊎◌, inl, inr}
use Rattle.std.proofs.Common.{Bool, true, false, List, [], ◌∷◌}
use Rattle.std.proofs.Common.{◌++◌, length, map, take, get_or, Some, ap, sym, refl, subst, arith, length-append}
use Rattle.std.proofs.Common.{append_assoc}
use Rattle.std.specs.Bool.{Decides}
use Rattle.std.specs.Borrow.{Bor}
use Rattle.std.specs.List.{AllByRecursion, IsDistinct, list_any}
use Rattle.std.specs.Prelude.{flat_map, slice_get, if◌then◌else◌}
use Rattle.std.proofs.lemmas.Bool.{cases_lt}
use Rattle.std.proofs.lemmas.Grind.{flat_map-append}
use Rattle.std.proofs.lemmas.List.{length-map, take_more}
use Rattle.lalrpop_grammar_symbols.specs.declared.names.NonterminalString.{NonterminalString}
use Rattle.lalrpop_grammar_symbols.specs.declared.terminal.TerminalString.{TerminalString}
use Rattle.lalrpop_grammar_repr.specs.declared.production.Production.{Production}
use Rattle.lalrpop_grammar_repr.specs.declared.terminal_set.TerminalSet.{TerminalSet}
use Rattle.lalrpop_lr1_theory.proofs.ListLemmas.{get_front}
use Rattle.lalrpop_lr1_theory.proofs.PlaceLemmas.{slice_get-append}
use Rattle.lalrpop_lr1_theory.proofs.StepLemmas.{some_same}
use Rattle.lalrpop_lr1_core.specs.declared.state.State.{State}
use Rattle.lalrpop_lr1_interpret.specs.Numbers.{GoOn, HaveOneNumber}
use Rattle.lalrpop_lr1_interpret.specs.Rows.{AreActionsOf, AreNumberedProductions, AreNumbersOf, AreRowsOf, IsActionOf, end_productions}
use Rattle.lalrpop_lr1_interpret.specs.Rows.{entry_view, goto_entries, goto_entry_view, row_at, row_between, terminal_entries}
use Rattle.lalrpop_lr1_interpret.specs.Tables.{IsNumberedProduction}
use Rattle.lalrpop_lr1_interpret.specs.declared.parse.entries.Act.{Act}
use Rattle.lalrpop_lr1_interpret.specs.declared.parse.entries.Act.TheVariants as acts
use Rattle.lalrpop_lr1_interpret.specs.declared.parse.entries.Entries.{Entries}
use Rattle.lalrpop_lr1_interpret.specs.declared.parse.entries.GotoEntry.{GotoEntry}
use Rattle.lalrpop_lr1_interpret.specs.declared.parse.entries.TerminalEntry.{TerminalEntry}
use Rattle.lalrpop_lr1_interpret.specs.declared.parse.table_row.NumberedProduction.{NumberedProduction}
use Rattle.lalrpop_lr1_interpret.specs.declared.parse.table_row.PlaceRange.{PlaceRange}
use Rattle.lalrpop_lr1_interpret.specs.declared.parse.table_row.TableAction.{TableAction}
use Rattle.lalrpop_lr1_interpret.specs.declared.parse.table_row.TableAction.TheVariants as actions
use Rattle.lalrpop_lr1_interpret.specs.declared.parse.table_row.TableRow.{TableRow}

-- what comes of one element more
pub flat_more : {X Y : Type 0} (f : X → List Y) (xs : List X) (i : ℕ) (x : X) → i < length xs → x ≡ get_or xs i x →
    flat_map f (take (i + 1) xs) ≡ flat_map f (take i xs) ++ f x
flat_more f xs i x h read =
    ap (flat_map f) (take_more xs i x h) ∙ flat_map-append f (take i xs) (get_or xs i x ∷ [])
    ∙ ap (λ y. flat_map f (take i xs) ++ (f y ++ [])) (sym read) ∙ ap (λ l. flat_map f (take i xs) ++ l) (nothing (f x))
  where
    nothing : {Z : Type 0} (ys : List Z) → ys ++ [] ≡ ys
    nothing [] = refl
    nothing (y ∷ ys) = ap (λ l. y ∷ l) (nothing ys)

-- one row more
pub rows_more : (ts : TerminalSet) (states : List (State (List ℕ))) (rows rows' : List TableRow) (row : TableRow) →
    AreRowsOf ts states rows → rows' ≡ rows ++ row ∷ [] → row ≡ row_at ts states (length rows) → AreRowsOf ts states rows'
rows_more ts states rows rows' row so e is n h =
    ap (λ l. slice_get l n) e ∙ go (cases_lt n (length rows))
  where
    long : length rows' ≡ length rows + 1
    long = ap length e ∙ length-append rows (row ∷ [])

    go : (n < length rows) ⊎ (length rows ≤ n) → slice_get (rows ++ row ∷ []) n ≡ Some (row_at ts states n)
    go (inl less) = get_front rows (row ∷ []) n (row_at ts states n) (so n less)
    go (inr more) =
        let last : n ≡ length rows = omega (arith, long, h) in
        slice_get-append rows (row ∷ []) 0 n (omega (arith, last)) ∙ ap Some (is ∙ ap (row_at ts states) (sym last))

part_same : (a b c d : ℕ) → a ≡ c → b ≡ d →
    (let p : PlaceRange = record { first = a; past = b } in p) ≡ record { first = c; past = d }
part_same a b c d e f =
    let first : ℕ → PlaceRange = λ x. record { first = x; past = b } in
    let past : ℕ → PlaceRange = λ x. record { first = c; past = x } in
    ap first e ∙ ap past f

-- the row between entries of the first states and those of one more is the state's
pub row_is : (ts : TerminalSet) (states : List (State (List ℕ))) (old new : Entries) (i : ℕ) →
    map entry_view old.terminals.items ≡ flat_map (terminal_entries ts) (take i states) →
    map entry_view new.terminals.items ≡ flat_map (terminal_entries ts) (take (i + 1) states) →
    old.ends.items ≡ flat_map (end_productions ts) (take i states) →
    new.ends.items ≡ flat_map (end_productions ts) (take (i + 1) states) →
    map goto_entry_view old.gotos.items ≡ flat_map goto_entries (take i states) →
    map goto_entry_view new.gotos.items ≡ flat_map goto_entries (take (i + 1) states) → row_between old new ≡ row_at ts states i
row_is ts states old new i t u e f g h =
    let one = part_same (length old.terminals.items) (length new.terminals.items) (length (flat_map (terminal_entries ts) (take i states)))
    (length (flat_map (terminal_entries ts) (take (i + 1) states)))
    (sym (length-map old.terminals.items entry_view) ∙ ap length t) (sym (length-map new.terminals.items entry_view) ∙ ap length u) in
    let two = part_same (length old.ends.items) (length new.ends.items) (length (flat_map (end_productions ts) (take i states)))
    (length (flat_map (end_productions ts) (take (i + 1) states))) (ap length e) (ap length f) in
    let three = part_same (length old.gotos.items) (length new.gotos.items) (length (flat_map goto_entries (take i states)))
    (length (flat_map goto_entries (take (i + 1) states)))
    (sym (length-map old.gotos.items goto_entry_view) ∙ ap length g) (sym (length-map new.gotos.items goto_entry_view) ∙ ap length h) in
    rows_same (row_between old new) (row_at ts states i) one two three
  where
    rows_same : (a b : TableRow) → a.actions ≡ b.actions → a.ends ≡ b.ends → a.gotos ≡ b.gotos → a ≡ b
    rows_same a b x y z =
        let x' : PlaceRange → TableRow = λ p. record { actions = p; ends = a.ends; gotos = a.gotos } in
        let y' : PlaceRange → TableRow = λ p. record { actions = b.actions; ends = p; gotos = a.gotos } in
        let z' : PlaceRange → TableRow = λ p. record { actions = b.actions; ends = b.ends; gotos = p } in
        ap x' x ∙ ap y' y ∙ ap z' z

pub go_on_same : {X : Type 0} (xs ys : List X) → ys ≡ xs → GoOn xs ys
go_on_same xs ys e = record { more = []; parts = e ∙ sym (nothing xs); apart = λ h. subst HaveOneNumber (sym e) h }
  where
    nothing : {Z : Type 0} (zs : List Z) → zs ++ [] ≡ zs
    nothing [] = refl
    nothing (z ∷ zs) = ap (λ l. z ∷ l) (nothing zs)

-- names that go on, and then go on once more, go on from the first to the last
pub go_on_both : {X : Type 0} (xs ys zs : List X) → GoOn xs ys → GoOn ys zs → GoOn xs zs
go_on_both xs ys zs a b = record {
  more = a.more ++ b.more;
  parts = b.parts ∙ ap (λ l. l ++ b.more) a.parts ∙ append_assoc xs a.more b.more;
  apart = λ h. b.apart (a.apart h);
}

pub still : {X : Type 0} (xs ys : List X) (k : ℕ) (x : X) → GoOn xs ys → slice_get xs k ≡ Some x → slice_get ys k ≡ Some x
still xs ys k x a e = ap (λ l. slice_get l k) a.parts ∙ get_front xs a.more k x e

pub still_numbers : {X : Type 0} (names names' xs : List X) (ks : List ℕ) → GoOn names names' → AreNumbersOf names xs ks →
    AreNumbersOf names' xs ks
still_numbers names names' [] [] a h = tt
still_numbers names names' [] (k ∷ ks) a h = absurd h
still_numbers names names' (x ∷ xs) [] a h = absurd h
still_numbers names names' (x ∷ xs) (k ∷ ks) a h = (still names names' k x a h.0, still_numbers names names' xs ks a h.1)

pub numbers_more : {X : Type 0} (names xs : List X) (ks : List ℕ) (x : X) (k : ℕ) → AreNumbersOf names xs ks →
    slice_get names k ≡ Some x → AreNumbersOf names (xs ++ x ∷ []) (ks ++ k ∷ [])
numbers_more names [] [] x k h e = (e, tt)
numbers_more names [] (j ∷ ks) x k h e = absurd h
numbers_more names (y ∷ xs) [] x k h e = absurd h
numbers_more names (y ∷ xs) (j ∷ ks) x k h e = (h.0, numbers_more names xs ks x k h.1 e)

still_numbered : (names names' : List NonterminalString) (r : NumberedProduction) → GoOn names names' →
    IsNumberedProduction names r → IsNumberedProduction names' r
still_numbered names names' r a h =
    record { name = still names names' r.nonterminal r.production.now.nonterminal a h.name; count = h.count }

still_action : (names names' : List NonterminalString) (a : Act) (b : TableAction) → GoOn names names' → IsActionOf names a b →
    IsActionOf names' a b
still_action names names' (acts.Shift m) (actions.Shift k) g h = h
still_action names names' (acts.Shift m) (actions.Reduce r) g h = absurd h
still_action names names' (acts.Reduce p) (actions.Shift k) g h = absurd h
still_action names names' (acts.Reduce p) (actions.Reduce r) g h = (h.0, still_numbered names names' r g h.1)

-- actions by numbers stay those by names where the names go on
pub still_actions : (names names' : List NonterminalString) (as_ : List Act) (bs : List TableAction) → GoOn names names' →
    AreActionsOf names as_ bs → AreActionsOf names' as_ bs
still_actions names names' [] [] g h = tt
still_actions names names' [] (b ∷ bs) g h = absurd h
still_actions names names' (a ∷ as_) [] g h = absurd h
still_actions names names' (a ∷ as_) (b ∷ bs) g h = (still_action names names' a b g h.0, still_actions names names' as_ bs g h.1)

pub actions_more : (names : List NonterminalString) (as_ : List Act) (bs : List TableAction) (a : Act) (b : TableAction) →
    AreActionsOf names as_ bs → IsActionOf names a b → AreActionsOf names (as_ ++ a ∷ []) (bs ++ b ∷ [])
actions_more names [] [] a b h e = (e, tt)
actions_more names [] (y ∷ bs) a b h e = absurd h
actions_more names (x ∷ as_) [] a b h e = absurd h
actions_more names (x ∷ as_) (y ∷ bs) a b h e = (h.0, actions_more names as_ bs a b h.1 e)

-- productions with numbers stay so where the names go on
pub still_productions : (names names' : List NonterminalString) (ps : List (Bor Production)) (rs : List NumberedProduction) →
    GoOn names names' → AreNumberedProductions names ps rs → AreNumberedProductions names' ps rs
still_productions names names' [] [] g h = tt
still_productions names names' [] (r ∷ rs) g h = absurd h
still_productions names names' (p ∷ ps) [] g h = absurd h
still_productions names names' (p ∷ ps) (r ∷ rs) g h =
    (h.0, still_numbered names names' r g h.1, still_productions names names' ps rs g h.2)

pub productions_more : (names : List NonterminalString) (ps : List (Bor Production)) (rs : List NumberedProduction) (p : Bor Production)
    (r : NumberedProduction) → AreNumberedProductions names ps rs → r.production ≡ p → IsNumberedProduction names r →
    AreNumberedProductions names (ps ++ p ∷ []) (rs ++ r ∷ [])
productions_more names [] [] p r h e n = (e, n, tt)
productions_more names [] (s ∷ rs) p r h e n = absurd h
productions_more names (q ∷ ps) [] p r h e n = absurd h
productions_more names (q ∷ ps) (s ∷ rs) p r h e n = (h.0, h.1, productions_more names ps rs p r h.2 e n)

-- where names are told apart by a test that is equality, each has one number
module _ {X : Type 0} (eq : X → X → Bool) (same : (a b : X) → Decides (eq a b) (a ≡ b)) where
  all_after : (y : X) (zs : List X) (i : ℕ) (z : X) → AllByRecursion (λ w. eq y w ≡ false) zs → slice_get zs i ≡ Some z →
      eq y z ≡ false
  all_after y [] i z h e = let w : ⊥ = cc in absurd w
  all_after y (w ∷ zs) zero z h e = ap (eq y) (sym (some_same w z e)) ∙ h.0
  all_after y (w ∷ zs) (suc i) z h e = all_after y zs i z h.1 e

  apart : (y z : X) → eq y z ≡ false → y ≡ z → ⊥
  apart y z differs e =
      let so : true ≡ false = sym ((same y z).1 e) ∙ differs in
      let w : ⊥ = cc in w

  pub one_number : (xs : List X) → IsDistinct eq xs → HaveOneNumber xs
  unfolding IsDistinct
  one_number [] d j k x a b = let z : ⊥ = cc in absurd z
  one_number (y ∷ ys) d zero zero x a b = refl
  one_number (y ∷ ys) d zero (suc k) x a b = absurd (apart y x (all_after y ys k x d.0 b) (some_same y x a))
  one_number (y ∷ ys) d (suc j) zero x a b = absurd (apart y x (all_after y ys j x d.0 a) (some_same y x b))
  one_number (y ∷ ys) d (suc j) (suc k) x a b = ap suc (one_number ys d.1 j k x a b)

-- a name that is put in: the names go on
pub go_on_key : {X : Type 0} (eq : X → X → Bool) → ((a b : X) → Decides (eq a b) (a ≡ b)) → (xs ys : List X) (x : X) →
    ys ≡ (if list_any (eq x) xs then xs else xs ++ x ∷ []) → IsDistinct eq ys → GoOn xs ys
go_on_key {X} eq same xs ys x e d = go (list_any (eq x) xs) e
  where
    go : (b : Bool) → ys ≡ (if b then xs else xs ++ x ∷ []) → GoOn xs ys
    go true f = go_on_same xs ys f
    go false f = record { more = x ∷ []; parts = f; apart = λ h. one_number eq same ys d }

-- loops over entries, one entry further on
pub map_more : {X Y : Type 0} (f : X → Y) (xs : List X) (i : ℕ) (x : X) → i < length xs → x ≡ get_or xs i x →
    map f (take (i + 1) xs) ≡ map f (take i xs) ++ f x ∷ []
map_more {X} {Y} f xs i x h read =
    ap (map f) (take_more xs i x h) ∙ mapped (take i xs) (get_or xs i x) ∙ ap (λ y. map f (take i xs) ++ f y ∷ []) (sym read)
  where
    mapped : (ys : List X) (y : X) → map f (ys ++ y ∷ []) ≡ map f ys ++ f y ∷ []
    mapped [] y = refl
    mapped (z ∷ ys) y = ap (λ l. f z ∷ l) (mapped ys y)

-- where the names go on, a name and its number may be put behind the names and numbers so far
pub numbers_on : {X : Type 0} (names names' xs xs' : List X) (ks ks' : List ℕ) (x : X) (k : ℕ) → GoOn names names' →
    AreNumbersOf names xs ks → slice_get names' k ≡ Some x → xs' ≡ xs ++ x ∷ [] → ks' ≡ ks ++ k ∷ [] →
    AreNumbersOf names' xs' ks'
numbers_on names names' xs xs' ks ks' x k g h e a b =
    subst (λ l. AreNumbersOf names' l ks') (sym a) (subst (AreNumbersOf names' (xs ++ x ∷ [])) (sym b)
    (numbers_more names' xs ks x k (still_numbers names names' xs ks g h) e))

-- where the names go on, an action by name and by number may be put behind those so far
pub actions_on : (names names' : List NonterminalString) (as_ as' : List Act) (bs bs' : List TableAction) (a : Act) (b : TableAction) →
    GoOn names names' → AreActionsOf names as_ bs → IsActionOf names' a b → as' ≡ as_ ++ a ∷ [] → bs' ≡ bs ++ b ∷ [] →
    AreActionsOf names' as' bs'
actions_on names names' as_ as' bs bs' a b g h e u v =
    subst (λ l. AreActionsOf names' l bs') (sym u) (subst (AreActionsOf names' (as_ ++ a ∷ [])) (sym v)
    (actions_more names' as_ bs a b (still_actions names names' as_ bs g h) e))

-- where the names go on, a production and itself with numbers may be put behind those so far
pub productions_on : (names names' : List NonterminalString) (ps ps' : List (Bor Production)) (rs rs' : List NumberedProduction)
    (p : Bor Production) (r : NumberedProduction) → GoOn names names' → AreNumberedProductions names ps rs → r.production ≡ p →
    IsNumberedProduction names' r → ps' ≡ ps ++ p ∷ [] → rs' ≡ rs ++ r ∷ [] → AreNumberedProductions names' ps' rs'
productions_on names names' ps ps' rs rs' p r g h e n u v =
    subst (λ l. AreNumberedProductions names' l rs') (sym u) (subst (AreNumberedProductions names' (ps ++ p ∷ [])) (sym v)
    (productions_more names' ps rs p r (still_productions names names' ps rs g h) e n))

-- the names and the actions of entries that are seen as these
pub entry_names : (es : List TerminalEntry) (seen : List (TerminalString × Act)) → map entry_view es ≡ seen →
    map (λ e. e.terminal.now) es ≡ map (λ e. e.0) seen
entry_names es seen e = go es ∙ ap (map (λ x. x.0)) e
  where
    go : (xs : List TerminalEntry) → map (λ x. x.terminal.now) xs ≡ map (λ x. x.0) (map entry_view xs)
    go [] = refl
    go (x ∷ xs) = ap (λ l. x.terminal.now ∷ l) (go xs)

-- the actions of entries are the second parts of the entries as they are seen
pub entry_acts : (es : List TerminalEntry) (seen : List (TerminalString × Act)) → map entry_view es ≡ seen →
    map (λ e. e.act) es ≡ map (λ e. e.1) seen
entry_acts es seen e = go es ∙ ap (map (λ x. x.1)) e
  where
    go : (xs : List TerminalEntry) → map (λ x. x.act) xs ≡ map (λ x. x.1) (map entry_view xs)
    go [] = refl
    go (x ∷ xs) = ap (λ l. x.act ∷ l) (go xs)

-- the nonterminals of gotos are the first parts of the gotos as they are seen
pub goto_names : (es : List GotoEntry) (seen : List (NonterminalString × ℕ)) → map goto_entry_view es ≡ seen →
    map (λ e. e.nonterminal.now) es ≡ map (λ e. e.0) seen
goto_names es seen e = go es ∙ ap (map (λ x. x.0)) e
  where
    go : (xs : List GotoEntry) → map (λ x. x.nonterminal.now) xs ≡ map (λ x. x.0) (map goto_entry_view xs)
    go [] = refl
    go (x ∷ xs) = ap (λ l. x.nonterminal.now ∷ l) (go xs)

-- the targets of gotos are the second parts of the gotos as they are seen
pub goto_targets : (es : List GotoEntry) (seen : List (NonterminalString × ℕ)) → map goto_entry_view es ≡ seen →
    map (λ e. e.target) es ≡ map (λ e. e.1) seen
goto_targets es seen e = go es ∙ ap (map (λ x. x.1)) e
  where
    go : (xs : List GotoEntry) → map (λ x. x.target) xs ≡ map (λ x. x.1) (map goto_entry_view xs)
    go [] = refl
    go (x ∷ xs) = ap (λ l. x.target ∷ l) (go xs)

-- where there are no names, each has one number
pub none_has_two : {X : Type 0} (xs : List X) → xs ≡ [] → HaveOneNumber xs
none_has_two {X} xs e = subst HaveOneNumber (sym e) go
  where
    go : HaveOneNumber {X = X} []
    go j k x a b = let z : ⊥ = cc in absurd z
