-- Records of one symbol more: for the functions that make them.
use Rattle.std.proofs.Common.{◌≡◌, ◌+◌, ◌<◌, ℕ, List, [], ◌∷◌, ◌++◌, refl, ap, sym, ◌∙◌}
use Rattle.std.proofs.Common.{append_assoc, drop, map}
use Rattle.std.proofs.Common.{add-one, drop-cons, get_or, length, suc}
use Rattle.std.specs.Prelude.{flat_map}
use Rattle.lalrpop_grammar_repr.specs.declared.action.InlinedSymbol.{InlinedSymbol}
use Rattle.lalrpop_grammar_repr.specs.declared.production.Production.{Production}
use Rattle.lalrpop_grammar_repr.specs.declared.production.Symbol.{Symbol}
use Rattle.lalrpop_grammar_symbols.specs.Symbols.{Text}
use Rattle.lalrpop_lr1_inline.specs.InliningSteps.{record_entries, longer_records, records_of}
use Rattle.lalrpop_grammar_language.proofs.StepOnceLemmas.{append-none}

abbrev Record : Type 0
Record = List InlinedSymbol

-- each record with all that may follow it
abbrev pub records_behind : List Record → List Record → List Record
records_behind fronts rest = flat_map (λ f. map (λ r. f ++ r) rest) fronts

-- one front further on
pub longer_on : (made more left rest whole : List Record) (front : Record) (entries : List InlinedSymbol) → left ≡ front ∷ rest →
    more ≡ made ++ map (λ e. front ++ e ∷ []) entries → made ++ longer_records left entries ≡ whole →
    more ++ longer_records rest entries ≡ whole
longer_on made more left rest whole front entries e f h =
    ap (λ l. l ++ longer_records rest entries) f
    ∙ append_assoc made (map (λ e. front ++ e ∷ []) entries) (longer_records rest entries)
    ∙ ap (λ l. made ++ longer_records l entries) (sym e) ∙ h

behind-append : (xs ys rest : List Record) → records_behind (xs ++ ys) rest ≡ records_behind xs rest ++ records_behind ys rest
behind-append [] ys rest = refl
behind-append (x ∷ xs) ys rest =
    ap (λ l. map (λ r. x ++ r) rest ++ l) (behind-append xs ys rest)
    ∙ sym (append_assoc (map (λ r. x ++ r) rest) (records_behind xs rest) (records_behind ys rest))

map-join : (f : Record) (e : InlinedSymbol) (rest : List Record) →
    map (λ r. (f ++ e ∷ []) ++ r) rest ≡ map (λ r. f ++ r) (map (λ r. e ∷ r) rest)
map-join f e [] = refl
map-join f e (r ∷ rest) =
    ap (λ x. x ∷ map (λ q. (f ++ e ∷ []) ++ q) rest) (append_assoc f (e ∷ []) r)
    ∙ ap (λ l. (f ++ e ∷ r) ∷ l) (map-join f e rest)

map-parts : (f : Record) (xs ys : List Record) → map (λ r. f ++ r) (xs ++ ys) ≡ map (λ r. f ++ r) xs ++ map (λ r. f ++ r) ys
map-parts f [] ys = refl
map-parts f (x ∷ xs) ys = ap (λ l. (f ++ x) ∷ l) (map-parts f xs ys)

one_front : (f : Record) (entries : List InlinedSymbol) (rest : List Record) →
    records_behind (map (λ e. f ++ e ∷ []) entries) rest ≡ map (λ r. f ++ r) (flat_map (λ e. map (λ r. e ∷ r) rest) entries)
one_front f [] rest = refl
one_front f (e ∷ entries) rest =
    ap (λ l. l ++ records_behind (map (λ e. f ++ e ∷ []) entries) rest) (map-join f e rest)
    ∙ ap (λ l. map (λ r. f ++ r) (map (λ r. e ∷ r) rest) ++ l) (one_front f entries rest)
    ∙ sym (map-parts f (map (λ r. e ∷ r) rest) (flat_map (λ e. map (λ r. e ∷ r) rest) entries))

-- records of one symbol more, with all that may follow them
behind_longer : (fronts rest : List Record) (entries : List InlinedSymbol) →
    records_behind (longer_records fronts entries) rest ≡ records_behind fronts (flat_map (λ e. map (λ r. e ∷ r) rest) entries)
behind_longer [] rest entries = refl
behind_longer (f ∷ fronts) rest entries =
    behind-append (map (λ e. f ++ e ∷ []) entries) (longer_records fronts entries) rest
    ∙ ap (λ l. l ++ records_behind (longer_records fronts entries) rest) (one_front f entries rest)
    ∙ ap (λ l. map (λ r. f ++ r) (flat_map (λ e. map (λ r. e ∷ r) rest) entries) ++ l) (behind_longer fronts rest entries)

-- one symbol further on
pub records_on : (n : Text) (ps : List Production) (s : Symbol) (left side : List Symbol) (fronts more whole : List Record) →
    left ≡ s ∷ side → more ≡ longer_records fronts (record_entries n ps s) → records_behind fronts (records_of n ps left)
    ≡ whole →
    records_behind more (records_of n ps side) ≡ whole
records_on n ps s left side fronts more whole e f h =
    ap (λ l. records_behind l (records_of n ps side)) f ∙ behind_longer fronts (records_of n ps side) (record_entries n ps s)
    ∙ ap (λ l. records_behind fronts (records_of n ps l)) (sym e) ∙ h

-- at the start the only front is empty
pub records_start : (rest : List Record) → records_behind ([] ∷ []) rest ≡ rest
records_start rest = append-none (map (λ r. [] ++ r) rest) ∙ same rest
  where
    same : (l : List Record) → map (λ r. [] ++ r) l ≡ l
    same [] = refl
    same (x ∷ l) = ap (λ k. x ∷ k) (same l)

-- at the end nothing follows
pub records_end : (fronts : List Record) → records_behind fronts ([] ∷ []) ≡ fronts
records_end [] = refl
records_end (f ∷ fronts) = ap (λ l. l ++ records_behind fronts ([] ∷ [])) (ap (λ x. x ∷ []) (append-none f)) ∙ ap (λ l. f
    ∷ l) (records_end fronts)

-- an item at a place, with what stands behind it
pub item_front : {A : Type 0} (xs : List A) (i : ℕ) (x : A) → i < length xs → x ≡ get_or xs i x → drop i xs ≡ x
    ∷ drop (i + 1) xs
item_front xs i x lt is =
    drop-cons xs i x lt ∙ ap (λ y. y ∷ drop (suc i) xs) (sym is) ∙ ap (λ k. x ∷ drop k xs) (sym (add-one i))
