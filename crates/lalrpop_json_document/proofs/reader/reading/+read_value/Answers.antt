use Rattle.std.proofs.Common.{◌≡◌, ◌∙◌, [], ◌∷◌, Some, None, ap, sym, arith, rules}
use Rattle.json.specs.Token.{Token}
use Rattle.json.specs.Json.{after_end_array, read_key}
use Rattle.json.specs.Reads.{token_of}
use Rattle.json.proofs.Grammar.{skip_value-shorter, value_is}
use Rattle.serde_json.specs.Data.{null, boolean, number, string, array, object, no_members}
use Rattle.serde_json.specs.View.{number_view}
use Rattle.lalrpop_json_document.specs.DocumentViews.{items_view, members_view, view}
use Rattle.lalrpop_json_document.specs.declared.value.JsonValue.{Array, Bool, Null, Number, Object, String, the_lemmas}
use Rattle.lalrpop_json_document.specs.TokenData.{members_behind}
use Rattle.lalrpop_json_document.proofs.ValueLemmas as first
use Rattle.lalrpop_json_document.proofs.ReadingLemmas.{items_begin, items_turn, items_refused, items_ended, items_end_shorter}
use Rattle.lalrpop_json_document.proofs.ReadingLemmas.{key_refused, member_refused}
use Rattle.lalrpop_json_document.proofs.ReadingLemmas.{members_begin, members_turn, members_go_on, shorter_than_all}
use Rattle.lalrpop_json_document.proofs.ReadingLemmas.{members_ended, members_end_shorter}
use Rattle.lalrpop_json_document.proofs.MemberOrderLemmas.{Entry, ascends_behind, inserted, none_ascends, put_behind, put_in_map}
use Rattle.lalrpop_json_document.proofs.reader.reading.+read_value.Goals as goal

-- ---- lists

pub read_items-items-init : goal.read_items-items-init
read_items-items-init t c = rw c.in_ok-found.ensures.items (items_begin _ _)

pub read_items-returns-in_err-item-clause-refused : goal.read_items-returns-in_err-item-clause-refused
read_items-returns-in_err-item-clause-refused t c refused =
    let l = c.items in
    let going : (after_end_array l.reader ≡ None) × (c.take_end_array.new.self ≡ l.reader) = grind arith in
    items_refused _ _ l.reader l.found.items l.invariant going.0 (rw (← going.1) (c.read_value.ensures.refused (grind arith)))

pub read_items-items-preserved : goal.read_items-items-preserved
read_items-items-preserved t c =
    let l = c.items in
    let going : (after_end_array l.reader ≡ None) × (c.take_end_array.new.self ≡ l.reader) = grind arith in
    let item = c.in_ok-item.ensures in
    let read = rw going.1 at item.read in
    let shorter = rw going.1 at item.shorter in
    rw c.in_ok-push.ensures.items (items_turn _ _ l.reader l.found.items l.invariant _ c.in_ok-item.item going.0 read shorter)

pub read_items-returns-clause-read : goal.read_items-returns-clause-read
read_items-returns-clause-read t c = items_ended _ _ c.items.reader c.items.found.items c.items.invariant _ (grind arith)

pub read_items-returns-clause-shorter : goal.read_items-returns-clause-shorter
read_items-returns-clause-shorter t c = items_end_shorter _ _ c.items.reader c.items.found.items c.items.invariant _ (grind arith)

-- ---- objects

pub read_members-members-init : goal.read_members-members-init
read_members-members-init t c = rw c.in_ok-found.ensures.items (members_begin _ no_members _, none_ascends)

pub read_members-returns-in_err-key-clause-refused : goal.read_members-returns-in_err-key-clause-refused
read_members-returns-in_err-key-clause-refused t c refused =
    key_refused _ _ _ c.members.reader _ c.members.invariant.0 c.in_err-key.ensures.value

pub read_members-returns-in_err-member-clause-refused : goal.read_members-returns-in_err-member-clause-refused
read_members-returns-in_err-member-clause-refused t c refused =
    let l = c.members in
    let named : read_key l.reader ≡ Some (Some c.in-Some.key.now, c.next_key.new.self) = grind arith in
    member_refused _ _ _ l.reader _ l.invariant.0 _ _ named (c.read_value.ensures.refused (grind arith))

pub read_members-members-preserved : goal.read_members-members-preserved
read_members-members-preserved t c =
    let l = c.members in
    let named : read_key l.reader ≡ Some (Some c.in-Some.key.now, c.next_key.new.self) = grind arith in
    let member = c.in_ok-member.ensures in
    let turn = members_turn _ _ _ l.reader (members_view l.found.items) l.invariant.0 _ _ _ _ named member.read member.shorter in
    let above = sym c.comes_last.ensures ∙ c.if-not-comes_last.false in
    let m : Entry = (c.in-Some.key, c.in_ok-member.member) in
    rw (c.in_ok-push.ensures.items, ← put_behind l.found.items m l.invariant.1 above)
    (turn, ascends_behind l.found.items m l.invariant.1 above)

pub read_members-returns-then-not-comes_last : goal.read_members-returns-then-not-comes_last
read_members-returns-then-not-comes_last t c =
    let l = c.members in
    let named : read_key l.reader ≡ Some (Some c.in-Some.key.now, c.next_key.new.self) = grind arith in
    let member = c.in_ok-member.ensures in
    let turn = members_turn _ _ _ l.reader (members_view l.found.items) l.invariant.0 _ _ _ _ named member.read member.shorter in
    let put_in =
    put_in_map l.found.items c.in_ok-unordered.unordered.entries (c.in-Some.key, c.in_ok-member.member) l.invariant.1
    c.in_ok-unordered.ensures in
    let same =
    members_go_on _ _ _ _ _ turn (skip_value-shorter c.args.depth)
    ∙ ap (λ found. members_behind c.args.depth found c.read_value.new.reader) put_in in
    let rest = c.read_unordered_members.ensures in
    record {
      read = rw same rest.read;
      refused = λ refused. same ∙ rest.refused refused;
      shorter = shorter_than_all _ _ _ _ _ turn _ _ rest.shorter;
    }

pub read_members-returns-clause-read : goal.read_members-returns-clause-read
read_members-returns-clause-read t c = members_ended _ _ _ c.members.reader _ c.members.invariant.0 _ (grind arith)

pub read_members-returns-clause-shorter : goal.read_members-returns-clause-shorter
read_members-returns-clause-shorter t c = members_end_shorter _ _ _ c.members.reader _ c.members.invariant.0 _ (grind arith)

-- ---- objects whose keys don't ascend

pub read_unordered_members-members-init : goal.read_unordered_members-members-init
read_unordered_members-members-init t c = members_begin _ _ _

pub read_unordered_members-returns-in_err-key-clause-refused : goal.read_unordered_members-returns-in_err-key-clause-refused
read_unordered_members-returns-in_err-key-clause-refused t c refused =
    key_refused _ _ _ c.members.reader _ c.members.invariant c.in_err-key.ensures.value

pub read_unordered_members-returns-in_err-member-clause-refused : goal.read_unordered_members-returns-in_err-member-clause-refused
read_unordered_members-returns-in_err-member-clause-refused t c refused =
    let l = c.members in
    let named : read_key l.reader ≡ Some (Some c.in-Some.key.now, c.next_key.new.self) = grind arith in
    member_refused _ _ _ l.reader _ l.invariant _ _ named (c.read_value.ensures.refused (grind arith))

pub read_unordered_members-members-preserved : goal.read_unordered_members-members-preserved
read_unordered_members-members-preserved t c =
    let l = c.members in
    let named : read_key l.reader ≡ Some (Some c.in-Some.key.now, c.next_key.new.self) = grind arith in
    let member = c.in_ok-member.ensures in
    let turn = members_turn _ _ _ l.reader (members_view l.found.entries) l.invariant _ _ _ _ named member.read member.shorter in
    rw (c.in_ok-insert.ensures.entries, inserted) turn

pub read_unordered_members-returns-clause-read : goal.read_unordered_members-returns-clause-read
read_unordered_members-returns-clause-read t c =
    rw c.in_ok-list_of.ensures (members_ended _ _ _ c.members.reader _ c.members.invariant _ (grind arith))

pub read_unordered_members-returns-clause-shorter : goal.read_unordered_members-returns-clause-shorter
read_unordered_members-returns-clause-shorter t c = members_end_shorter _ _ _ c.members.reader _ c.members.invariant _ (grind arith)

-- ---- values

pub read_value-returns-in_default-clause-refused : goal.read_value-returns-in_default-clause-refused
read_value-returns-in_default-clause-refused t c refused =
    let empty : c.args.reader.now ≡ [] = grind arith in
    first.nothing_read _ _ [] empty

pub read_value-returns-then-depth-eq0-clause-refused : goal.read_value-returns-then-depth-eq0-clause-refused
read_value-returns-then-depth-eq0-clause-refused t c refused =
    let is : c.args.reader.now ≡ Token.begin_array ∷ c.next.new.self = grind arith in
    first.array_too_deep _ _ _ is (omega arith)

pub read_value-returns-in_err-read_items-in-BeginArray-clause-refused :
    goal.read_value-returns-in_err-read_items-in-BeginArray-clause-refused
read_value-returns-in_err-read_items-in-BeginArray-clause-refused t c refused =
    let is : c.args.reader.now ≡ Token.begin_array ∷ c.next.new.self = grind arith in
    first.array_refused _ _ _ is (omega arith) (c.read_items.ensures.refused (grind arith))

pub read_value-returns-then-depth-eq0-2-clause-refused : goal.read_value-returns-then-depth-eq0-2-clause-refused
read_value-returns-then-depth-eq0-2-clause-refused t c refused =
    let is : c.args.reader.now ≡ Token.begin_object ∷ c.next.new.self = grind arith in
    first.object_too_deep _ _ _ is (omega arith)

pub read_value-returns-in_err-read_members-in-BeginObject-clause-refused :
    goal.read_value-returns-in_err-read_members-in-BeginObject-clause-refused
read_value-returns-in_err-read_members-in-BeginObject-clause-refused t c refused =
    let is : c.args.reader.now ≡ Token.begin_object ∷ c.next.new.self = grind arith in
    first.object_refused _ _ _ is (omega arith) (c.read_members.ensures.refused (grind arith))

pub read_value-returns-in-Null-clause-read : goal.read_value-returns-in-Null-clause-read
read_value-returns-in-Null-clause-read t c =
    let is : c.args.reader.now ≡ Token.null ∷ c.next.new.self = grind arith in
    let seen : view Null ≡ null = search (rules, the_lemmas) in
    rw seen (first.null_read _ _ _ is)

pub read_value-returns-in-Bool-clause-read : goal.read_value-returns-in-Bool-clause-read
read_value-returns-in-Bool-clause-read t c =
    let is : c.args.reader.now ≡ Token.boolean c.in-Bool.flag ∷ c.next.new.self = grind arith in
    let seen : view (Bool c.in-Bool.flag) ≡ boolean c.in-Bool.flag = search (rules, the_lemmas) in
    rw seen (first.flag_read _ _ _ c.in-Bool.flag is)

pub read_value-returns-in-String-clause-read : goal.read_value-returns-in-String-clause-read
read_value-returns-in-String-clause-read t c =
    let is : c.args.reader.now ≡ Token.string c.in-String.text.now ∷ c.next.new.self = grind arith in
    let seen : view (String c.in-String.text) ≡ string c.in-String.text.now = search (rules, the_lemmas) in
    rw seen (first.string_read _ _ _ c.in-String.text.now is)

pub read_value-returns-in-Some-number_of-clause-read : goal.read_value-returns-in-Some-number_of-clause-read
read_value-returns-in-Some-number_of-clause-read t c =
    let is : c.args.reader.now ≡ Token.number c.in-Number.text.now ∷ c.next.new.self = grind arith in
    let made = c.in-Some-number_of.number in
    let seen : view (Number made) ≡ number (number_view made) = search (rules, the_lemmas) in
    rw seen (first.number_read _ _ _ c.in-Number.text.now (number_view made) is (sym c.in-Some-number_of.ensures))

pub read_value-returns-in-None-clause-refused : goal.read_value-returns-in-None-clause-refused
read_value-returns-in-None-clause-refused t c refused =
    let is : c.args.reader.now ≡ Token.number c.in-Number.text.now ∷ c.next.new.self = grind arith in
    first.number_refused _ _ _ c.in-Number.text.now is (sym c.in-None.ensures)

pub read_value-returns-in_ok-read_items-in-BeginArray-clause-read :
    goal.read_value-returns-in_ok-read_items-in-BeginArray-clause-read
read_value-returns-in_ok-read_items-in-BeginArray-clause-read t c =
    let is : c.args.reader.now ≡ Token.begin_array ∷ c.next.new.self = grind arith in
    let found = c.in_ok-read_items-in-BeginArray in
    let seen : view (Array found.field-0) ≡ array (items_view found.field-0.items) = search (rules, the_lemmas) in
    rw seen (first.array_read _ _ _ _ _ is (omega arith) found.ensures.read)

pub read_value-returns-in_ok-read_members-in-BeginObject-clause-read :
    goal.read_value-returns-in_ok-read_members-in-BeginObject-clause-read
read_value-returns-in_ok-read_members-in-BeginObject-clause-read t c =
    let is : c.args.reader.now ≡ Token.begin_object ∷ c.next.new.self = grind arith in
    let found = c.in_ok-read_members-in-BeginObject in
    let seen : view (Object found.field-0) ≡ object (members_view found.field-0.items) = search (rules, the_lemmas) in
    rw seen (first.object_read _ _ _ _ _ is (omega arith) found.ensures.read)

pub read_value-returns-in-EndArray-clause-refused : goal.read_value-returns-in-EndArray-clause-refused
read_value-returns-in-EndArray-clause-refused t c refused =
    let is : c.args.reader.now ≡ token_of c.in-Some.token ∷ c.next.new.self = grind arith in
    rw (is, value_is) (grind arith)
