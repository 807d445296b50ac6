-- The search for the order, task by task: for `OrderSearch`.
use Rattle.std.proofs.Common.{◌≡◌, ◌≤◌, ◌+◌, List, [], ◌∷◌, ◌++◌, refl, ap, sym, ◌∙◌, subst, inl}
use Rattle.std.proofs.Common.{inr, true, false, arith}
use Rattle.std.proofs.Common.{length, length-append}
use Rattle.std.specs.Prelude.{Bool, map, reverse, flat_map, ◌||◌, if◌then◌else◌}
use Rattle.std.specs.Str.{bytes_eq}
use Rattle.std.proofs.lemmas.Slice.Eq.{bytes_eq-Decides}
use Rattle.std.proofs.lemmas.Grind.{reverse_onto}
use Rattle.std.proofs.lemmas.List.{length-reverse, map-append, reverse-append, reverse-reverse}
use Rattle.std.specs.Borrow.{Bor}
use Rattle.lalrpop_grammar_symbols.specs.declared.names.NonterminalString.{NonterminalString}
use Rattle.lalrpop_lr1_inline.specs.declared.order.Visit.{Visit}
use Rattle.lalrpop_lr1_inline.specs.declared.order.Visit.TheVariants as tasks
use Rattle.lalrpop_grammar_symbols.specs.Symbols.{Text}
use Rattle.lalrpop_grammar_language.specs.Among.{Among}
use Rattle.lalrpop_grammar_language.specs.Enabled.{has_text}
use Rattle.lalrpop_grammar_language.proofs.PlaceLemmas.{among_filter}
use Rattle.lalrpop_grammar_repr.specs.Productions.{productions_in}
use Rattle.lalrpop_grammar_repr.specs.declared.production.Production.{Production}
use Rattle.lalrpop_grammar_rules.specs.RuleTable.{Names, knows}
use Rattle.lalrpop_lr1_inline.specs.InlinedNames.{NonterminalEntries, data_named, inlined_in_symbols, inlined_named_by, inlined_names}
use Rattle.lalrpop_lr1_inline.specs.InlinedNames.{is_inlined_name, names_in_symbol}
use Rattle.lalrpop_lr1_inline.specs.InliningOrders.{IsInliningOrder}
use Rattle.lalrpop_lr1_inline.specs.InlineFaults.{IsInlineChain, IsInlinedIntoItself}
use Rattle.lalrpop_lr1_inline.specs.OrderSearches.{AreLinked, IsNamedByFirst, IsOrderSearch, LeadOn, OrderTask, names_open, tasks_at}
use Rattle.lalrpop_lr1_inline.specs.OrderSearches.{task_view, tasks_to_come, tasks_to_enter, tasks_view}
use Rattle.lalrpop_lr1_inline.proofs.AmongLemmas.{among_reverse, has_text-append, not_found}
use Rattle.lalrpop_grammar_language.proofs.AmongLemmas.{among_flat_map}
use Rattle.lalrpop_grammar_language.proofs.AmongLemmas.{found_text}
use Rattle.lalrpop_grammar_language.proofs.StepOnceLemmas.{append-none}
use Rattle.lalrpop_lr1_inline.proofs.WalkLemmas.{lead_enter, lead_past, lead_walk}

-- what a production names and is inlined is inlined
pub named_inlined : (g : NonterminalEntries) (n m : Text) → Among (inlined_named_by g n) m → is_inlined_name g m ≡ true
named_inlined g n m i =
    let r = among_flat_map (λ (p : Production). inlined_in_symbols g p.symbols) (productions_in (data_named g n)) m i in
    (among_filter (is_inlined_name g) (flat_map names_in_symbol r.0.symbols) m r.2).1

open-enter : (ns : List Text) (ts : List OrderTask) → names_open (tasks_to_enter ns ++ ts) ≡ names_open ts
open-enter [] ts = refl
open-enter (n ∷ ns) ts = open-enter ns ts

linked-enter : (g : NonterminalEntries) (ns : List Text) (ts : List OrderTask) →
    ((m : Text) → Among ns m → (is_inlined_name g m ≡ true) × IsNamedByFirst g (names_open ts) m) → AreLinked g ts →
    AreLinked g (tasks_to_enter ns ++ ts)
linked-enter g [] ts each h = h
linked-enter g (n ∷ ns) ts each h =
    let first = each n (inl refl) in (
      first.0,
      subst (λ (l : List Text). IsNamedByFirst g l n) (sym (open-enter ns ts)) first.1,
      linked-enter g ns ts (λ m i. each m (inr i)) h,
    )

-- at the start all inlined nonterminals are to be entered
pub search_start : (g : NonterminalEntries) (ts : List OrderTask) (entered left : Names) → ts ≡ tasks_to_enter (inlined_names g) →
    ((n : Text) → Among (inlined_names g) n → is_inlined_name g n ≡ true) → ((n : Text) → knows entered n ≡ false) →
    ((n : Text) → knows left n ≡ false) → IsOrderSearch g ts [] entered left
search_start g ts entered left e inlined none_entered none_left =
    let whole : ts ≡ tasks_to_enter (inlined_names g) ++ [] = e ∙ sym (append-none (tasks_to_enter (inlined_names g))) in
    let opened : names_open ts ≡ [] = ap names_open whole ∙ open-enter (inlined_names g) [] in
    record {
      leads = λ final h.
          let r = lead_walk g (inlined_names g) [] [] final (subst (λ (l : List OrderTask). LeadOn g l [] final) whole h) in
          (r.walk, r.is_walk, r.rest);
      left_is = none_left;
      entered_is = λ n. none_entered n ∙ sym (ap (has_text n) opened);
      linked = subst (AreLinked g) (sym whole) (linked-enter g (inlined_names g) [] (λ m i. (inlined m i, tt)) tt);
    }

or-last : (a b c : Bool) → (a || (b || c)) ≡ ((a || (b || false)) || c)
or-last true b c = refl
or-last false true c = refl
or-last false false c = refl

or-none : (b : Bool) → (b || false) ≡ b
or-none true = refl
or-none false = refl

-- a name is left
pub search_leave : (g : NonterminalEntries) (n : Text) (ts : List OrderTask) (order : List Text) (entered left more : Names) →
    IsOrderSearch g (OrderTask.leave n ∷ ts) order entered left → ((m : Text) → knows more m ≡ (knows left m || bytes_eq m n)) →
    IsOrderSearch g ts (order ++ n ∷ []) entered more
search_leave g n ts order entered left more s one = record {
  leads = λ final h. s.leads final h;
  left_is = λ m.
      one m ∙ ap (λ b. b || bytes_eq m n) (s.left_is m) ∙ ap (λ b. has_text m order || b) (sym (or-none (bytes_eq m n)))
      ∙ sym (has_text-append m order (n ∷ []));
  entered_is = λ m.
      s.entered_is m ∙ or-last (has_text m order) (bytes_eq m n) (has_text m (names_open ts))
      ∙ ap (λ b. b || has_text m (names_open ts)) (sym (has_text-append m order (n ∷ [])));
  linked = s.linked.2;
}

-- a name is met again that was left before
pub search_past : (g : NonterminalEntries) (n : Text) (ts : List OrderTask) (order : List Text) (entered left : Names) →
    IsOrderSearch g (OrderTask.enter n ∷ ts) order entered left → knows left n ≡ true → IsOrderSearch g ts order entered left
search_past g n ts order entered left s met = record {
  leads = λ final h. s.leads final (lead_past g n ts order final (found_text n order (sym (s.left_is n) ∙ met)) h);
  left_is = s.left_is;
  entered_is = s.entered_is;
  linked = s.linked.2;
}

or-swap : (a b c : Bool) → ((a || b) || c) ≡ (a || (c || b))
or-swap true b c = refl
or-swap false true true = refl
or-swap false true false = refl
or-swap false false true = refl
or-swap false false false = refl

-- a name is entered
pub search_enter : (g : NonterminalEntries) (n : Text) (ts new : List OrderTask) (order : List Text) (entered left more : Names) →
    IsOrderSearch g (OrderTask.enter n ∷ ts) order entered left → knows left n ≡ false →
    ((m : Text) → knows more m ≡ (knows entered m || bytes_eq m n)) →
    new ≡ tasks_to_enter (reverse (inlined_named_by g n)) ++ OrderTask.leave n ∷ ts →
    IsOrderSearch g new order more left
search_enter g n ts new order entered left more s unmet one e =
    let fresh = not_found n order (sym (s.left_is n) ∙ unmet) in
    let opened : names_open new ≡ n ∷ names_open ts =
    ap names_open e ∙ open-enter (reverse (inlined_named_by g n)) (OrderTask.leave n ∷ ts) in
    record {
      leads = λ final h.
          s.leads final (lead_enter g n ts order final fresh (subst (λ (l : List OrderTask). LeadOn g l order final) e h));
      left_is = s.left_is;
      entered_is = λ m.
          one m ∙ ap (λ b. b || bytes_eq m n) (s.entered_is m)
          ∙ or-swap (has_text m order) (has_text m (names_open ts)) (bytes_eq m n)
          ∙ sym (ap (λ l. has_text m order || has_text m l) opened);
      linked = subst (AreLinked g) (sym e) (linked-enter g (reverse (inlined_named_by g n)) (OrderTask.leave n ∷ ts)
          (λ m i. let j = among_reverse (inlined_named_by g n) m i in (named_inlined g n m j, j))
          (s.linked.0, s.linked.1, s.linked.2));
    }

-- a chain with one name more at its end
pub chain_on : (g : NonterminalEntries) (n : Text) (between : List Text) (k m : Text) → IsInlineChain g n between k →
    Among (inlined_named_by g k) m → IsInlineChain g n (between ++ k ∷ []) m
chain_on g n [] k m h i = (h, i)
chain_on g n (l ∷ between) k m h i = (h.0, chain_on g l between k m h.1 i)

-- from each name that is entered and not left a chain leads to the one that is met
chain_back : (g : NonterminalEntries) (ts : List OrderTask) (m n : Text) → IsNamedByFirst g (names_open ts) m → AreLinked g ts →
    Among (names_open ts) n → (between : List Text) × IsInlineChain g n between m
chain_back g [] m n first linked i = absurd i
chain_back g (OrderTask.enter k ∷ ts) m n first linked i = chain_back g ts m n first linked.2 i
chain_back g (OrderTask.leave k ∷ ts) m n first linked (inl e) =
    ([], subst (λ (x : Text). Among (inlined_named_by g x) m) e first)
chain_back g (OrderTask.leave k ∷ ts) m n first linked (inr i) =
    let r = chain_back g ts k n linked.1 linked.2 i in
    (r.0 ++ k ∷ [], chain_on g n r.0 k m r.1 first)

or-else : (a b : Bool) → (a || b) ≡ true → a ≡ false → b ≡ true
or-else true b h e = (let wrong : true ≡ false = e in cc)
or-else false b h e = h

-- a name that is met while it is entered is inlined into itself
pub search_cycle : (g : NonterminalEntries) (n : Text) (ts : List OrderTask) (order : List Text) (entered left : Names) →
    IsOrderSearch g (OrderTask.enter n ∷ ts) order entered left → knows left n ≡ false → knows entered n ≡ true →
    IsInlinedIntoItself g n
search_cycle g n ts order entered left s unmet met =
    let opened : has_text n (names_open ts) ≡ true =
    or-else (has_text n order) (has_text n (names_open ts)) (sym (s.entered_is n) ∙ met) (sym (s.left_is n) ∙ unmet) in
    let r = chain_back g ts n n s.linked.1 s.linked.2 (found_text n (names_open ts) opened) in
    record { is_inlined = s.linked.0; between = r.0; chain = r.1 }

-- where no task is left, the order is found
pub search_end : (g : NonterminalEntries) (order : List Text) (entered left : Names) → IsOrderSearch g [] order entered left →
    IsInliningOrder g order
search_end g order entered left s = s.leads order refl

-- how much is to come at most

at_most : (g : NonterminalEntries) (entered more : Names) (n : Text) → ((m : Text) → knows more m
    ≡ (knows entered m || bytes_eq m n)) →
    (ns : List Text) → tasks_at g more ns ≤ tasks_at g entered ns
at_most g entered more n one [] = omega arith
at_most g entered more n one (m ∷ ms) = go (knows entered m) (knows more m) refl refl (at_most g entered more n one ms)
  where
    go : (a b : Bool) → knows entered m ≡ a → knows more m ≡ b → tasks_at g more ms ≤ tasks_at g entered ms →
        (if b then 0 else 1 + length (inlined_named_by g m)) + tasks_at g more ms
        ≤ (if a then 0 else 1 + length (inlined_named_by g m)) + tasks_at g entered ms
    go true true e f ih = omega (arith, ih)
    go false true e f ih = omega (arith, ih)
    go false false e f ih = omega (arith, ih)
    go true false e f ih =
        let now : knows more m ≡ true = one m ∙ ap (λ b. b || bytes_eq m n) e in
        absurd (let wrong : true ≡ false = sym now ∙ f in cc)

-- a name that is entered now has no tasks to come
one_entered : (g : NonterminalEntries) (entered more : Names) (n : Text) → ((m : Text) → knows more m
    ≡ (knows entered m || bytes_eq m n)) →
    knows entered n ≡ false → (ns : List Text) → Among ns n →
    tasks_at g more ns + 1 + length (inlined_named_by g n) ≤ tasks_at g entered ns
one_entered g entered more n one unmet [] i = absurd i
one_entered g entered more n one unmet (m ∷ ms) (inl e) =
    let rest = at_most g entered more n one ms in
    let now : knows more m ≡ true = subst (λ (x : Text). knows more x ≡ true) (sym e)
    (one n ∙ ap (λ b. b || bytes_eq n n) unmet ∙ (bytes_eq-Decides n n).1 refl) in
    let before : knows entered m ≡ false = subst (λ (x : Text). knows entered x ≡ false) (sym e) unmet in
    subst (λ (x : Text). tasks_at g more (m ∷ ms) + 1 + length (inlined_named_by g x) ≤ tasks_at g entered (m ∷ ms)) e
    (go (knows entered m) (knows more m) before now rest)
  where
    go : (a b : Bool) → a ≡ false → b ≡ true → tasks_at g more ms ≤ tasks_at g entered ms →
        ((if b then 0 else 1 + length (inlined_named_by g m)) + tasks_at g more ms) + 1 + length (inlined_named_by g m)
        ≤ (if a then 0 else 1 + length (inlined_named_by g m)) + tasks_at g entered ms
    go true b p q ih = absurd (let wrong : true ≡ false = p in cc)
    go false false p q ih = absurd (let wrong : false ≡ true = q in cc)
    go false true p q ih = omega (arith, ih)
one_entered g entered more n one unmet (m ∷ ms) (inr i) =
    go (knows entered m) (knows more m) refl refl (one_entered g entered more n one unmet ms i)
  where
    go : (a b : Bool) → knows entered m ≡ a → knows more m ≡ b →
        tasks_at g more ms + 1 + length (inlined_named_by g n) ≤ tasks_at g entered ms →
        ((if b then 0 else 1 + length (inlined_named_by g m)) + tasks_at g more ms) + 1 + length (inlined_named_by g n)
        ≤ (if a then 0 else 1 + length (inlined_named_by g m)) + tasks_at g entered ms
    go true true e f ih = omega (arith, ih)
    go false true e f ih = omega (arith, ih)
    go false false e f ih = omega (arith, ih)
    go true false e f ih =
        let now : knows more m ≡ true = one m ∙ ap (λ b. b || bytes_eq m n) e in
        absurd (let wrong : true ≡ false = sym now ∙ f in cc)

length-enter : (ns : List Text) → length (tasks_to_enter ns) ≡ length ns
length-enter [] = refl
length-enter (n ∷ ns) = let rest = length-enter ns in grind (arith, rest)

-- a name is entered, and less is to come
pub fewer_enter : (g : NonterminalEntries) (n : Text) (ts new : List OrderTask) (entered more : Names) →
    Among (inlined_names g) n → knows entered n ≡ false → ((m : Text) → knows more m ≡ (knows entered m || bytes_eq m n)) →
    new ≡ tasks_to_enter (reverse (inlined_named_by g n)) ++ OrderTask.leave n ∷ ts →
    tasks_to_come g new more + 1 ≤ tasks_to_come g (OrderTask.enter n ∷ ts) entered
fewer_enter g n ts new entered more i unmet one e =
    let less = one_entered g entered more n one unmet (inlined_names g) i in
    let whole = ap length e in
    let parts = length-append (tasks_to_enter (reverse (inlined_named_by g n))) (OrderTask.leave n ∷ ts) in
    let named = length-enter (reverse (inlined_named_by g n)) in
    let turned = length-reverse (inlined_named_by g n) in
    grind (arith, less, whole, parts, named, turned)

map-turned : (ns : List Text) → reverse (tasks_to_enter ns) ≡ tasks_to_enter (reverse ns)
map-turned [] = refl
map-turned (n ∷ ns) =
    reverse_onto (tasks_to_enter ns) (OrderTask.enter n) [] ∙ ap (λ l. l ++ OrderTask.enter n ∷ []) (map-turned ns)
    ∙ sym (map-append OrderTask.enter (reverse ns) (n ∷ [])) ∙ sym (ap tasks_to_enter (reverse_onto ns n []))

-- the tasks behind those of a name that is entered
pub turned_tasks : (named : List Text) (items pushed new : List Visit) (name : Bor NonterminalString) →
    pushed ≡ items ++ tasks.Leave name ∷ [] → map task_view new ≡ map task_view pushed ++ tasks_to_enter named →
    tasks_view new ≡ tasks_to_enter (reverse named) ++ OrderTask.leave name.now.0 ∷ tasks_view items
turned_tasks named items pushed new name e f =
    ap reverse f ∙ reverse-append (map task_view pushed) (tasks_to_enter named)
    ∙ ap (λ l. l ++ reverse (map task_view pushed)) (map-turned named)
    ∙ ap (λ l. tasks_to_enter (reverse named) ++ l)
    (ap tasks_view e ∙ ap reverse (map-append task_view items (tasks.Leave name ∷ []))
    ∙ reverse-append (map task_view items) (OrderTask.leave name.now.0 ∷ []))

map-reverse : (ts : List Visit) → map task_view (reverse ts) ≡ reverse (map task_view ts)
map-reverse [] = refl
map-reverse (t ∷ ts) =
    ap (map task_view) (reverse_onto ts t []) ∙ map-append task_view (reverse ts) (t ∷ [])
    ∙ ap (λ l. l ++ task_view t ∷ []) (map-reverse ts) ∙ sym (reverse_onto (map task_view ts) (task_view t) [])

-- tasks in turned order are done in the order in which they stood
pub turned_back : (ts turned : List Visit) (whole : List OrderTask) → turned ≡ reverse ts → map task_view ts ≡ whole →
    tasks_view turned ≡ whole
turned_back ts turned whole e f =
    ap tasks_view e ∙ ap reverse (map-reverse ts) ∙ reverse-reverse (map task_view ts) ∙ f
