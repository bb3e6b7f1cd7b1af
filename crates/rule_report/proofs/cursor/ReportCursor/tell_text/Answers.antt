use Rattle.std.proofs.Common.{◌≡◌, ◌<◌, ◌≤◌, ◌+◌, ◌++◌, ◌∙◌, ℕ, Some, Result, Ok, Err, List, get_or, length, sym, ap, subst, refl, arith, length-append, vec_capacity, rules}
use Rattle.std.specs.Prelude.{IsSome, IsOk, vec_len}
use Rattle.std.proofs.lemmas.List.{get_or_default}
use Rattle.std.proofs.lemmas.List.Elements.{All-get_or}
use Rattle.imkl_population.specs.Population.{object_at, IsInstance}
use Rattle.rule_machine.specs.Machine.{setting_of}
use Rattle.rule_report.specs.Report.{context_objects, name_of, line_of, rule_line_of}
use Rattle.rule_report.specs.Counting.{counts_joined}
use Rattle.rule_report.specs.Cursor.{CursorSeen, cursor_seen, due, told_text, lines_between, next_rule, room_of, IsToldMore}
use Rattle.rule_report.proofs.Pairs.{is_due, here_text, told_here_is, placed_here_is, placed_last_is, room_enough, line_in_text, LastTold, last_text, told_last_is, next_is}
use Rattle.rule_report.proofs.cursor.ReportCursor.tell_text.Goals as goal

pub told_length-requires : goal.told_length-requires
told_length-requires c =
    let i = c.self.inside in
    let s : CursorSeen = cursor_seen i.accepted.now.unit i.population.now.content i.rule i.at i.here i.before in
    let within : i.rule < length i.accepted.now.unit.rules = is_due s c.self.invariant.1 (subst (λ (x : CursorSeen). IsSome (due x)) (sym c.self.view_is) c.requires) in
    subst (λ (x : CursorSeen). x.rule < length x.unit.rules) c.self.view_is within

not_err : {A E : Type 0} (r : Result A E) (e : E) → r ≡ Err e → IsOk r → ⊥
not_err (Ok x) e is ok = let bad = is in cc
not_err (Err x) e is ok = let bad = ok in cc

-- there is a pair whose verdict is due
pub rule_name-name-requires : goal.rule_name-name-requires
rule_name-name-requires c =
    let i = c.self.inside in
    let s : CursorSeen = cursor_seen i.accepted.now.unit i.population.now.content i.rule i.at i.here i.before in
    is_due s c.self.invariant.1 (subst (λ (x : CursorSeen). IsSome (due x)) (sym c.self.view_is) c.requires)

pub bounds-objects-self-inside : goal.bounds-objects-self-inside
bounds-objects-self-inside c =
    let i = c.self.inside in
    let u = i.accepted.now.unit in
    let p = i.population.now.content in
    let s : CursorSeen = cursor_seen u p i.rule i.at i.here i.before in
    let within : i.rule < length u.rules = is_due s c.self.invariant.1 (subst (λ (x : CursorSeen). IsSome (due x)) (sym c.self.view_is) c.requires) in
    let objects : context_objects u p i.rule ≡ i.objects.now = sym (c.self.invariant.2 within) in
    omega (arith, c.self.invariant.1.some within, ap length objects)

pub id-requires : goal.id-requires
id-requires c =
    let i = c.self.inside in
    let u = i.accepted.now.unit in
    let p = i.population.now.content in
    let s : CursorSeen = cursor_seen u p i.rule i.at i.here i.before in
    let within : i.rule < length u.rules = is_due s c.self.invariant.1 (subst (λ (x : CursorSeen). IsSome (due x)) (sym c.self.view_is) c.requires) in
    let objects : context_objects u p i.rule ≡ i.objects.now = sym (c.self.invariant.2 within) in
    let there : i.at < length i.objects.now = omega (arith, c.self.invariant.1.some within, ap length objects) in
    let instance = All-get_or (IsInstance p (setting_of u p i.rule).context) i.objects.now i.at c.index-objects-self.result there c.self.invariant.4 in
    subst (λ o. o < length p.objects) (sym c.index-objects-self.is) instance.0

-- there is room for the text
pub returns-in_err-reserve-clause-succeeds : goal.returns-in_err-reserve-clause-succeeds
returns-in_err-reserve-clause-succeeds c = λ room.
    let i = c.self.inside in
    let w = c.args.verdict in
    let s : CursorSeen = cursor_seen i.accepted.now.unit i.population.now.content i.rule i.at i.here i.before in
    let within : i.rule < length i.accepted.now.unit.rules = is_due s c.self.invariant.1 (subst (λ (x : CursorSeen). IsSome (due x)) (sym c.self.view_is) c.requires) in
    let len : vec_len c.args.out.now ≡ length c.args.out.now.items = search rules in
    let enough : vec_len c.args.out.now + c.told_length.result ≤ vec_capacity c.args.out.now =
    omega (arith, len, room, c.told_length.ensures, ap (λ (x : CursorSeen). length (told_text x w)) c.self.view_is, room_enough s w within, ap room_of c.self.view_is) in
    absurd (not_err c.reserve.result _ c.in_err-reserve.was (c.reserve.ensures.succeeds enough))

pub put_object_line-requires : goal.put_object_line-requires
put_object_line-requires c =
    let i = c.self.inside in
    let u = i.accepted.now.unit in
    let p = i.population.now.content in
    let w = c.args.verdict in
    let s : CursorSeen = cursor_seen u p i.rule i.at i.here i.before in
    let within : i.rule < length u.rules = is_due s c.self.invariant.1 (subst (λ (x : CursorSeen). IsSome (due x)) (sym c.self.view_is) c.requires) in
    let objects : context_objects u p i.rule ≡ i.objects.now = sym (c.self.invariant.2 within) in
    let there : i.at < length (context_objects u p i.rule) = c.self.invariant.1.some within in
    let object : c.index-objects-self.result ≡ get_or (context_objects u p i.rule) i.at 0 =
    c.index-objects-self.is ∙ ap (λ (os : List ℕ). get_or os i.at c.index-objects-self.result) (sym objects) ∙ get_or_default (context_objects u p i.rule) i.at c.index-objects-self.result 0 there in
    let line : line_of (Some w) c.rule_name-name.result.now c.id.result.now ≡ line_of (Some w) (name_of u i.rule) (object_at p (get_or (context_objects u p i.rule) i.at 0)).id =
    ap (λ n. line_of (Some w) n c.id.result.now) c.rule_name-name.ensures ∙ ap (λ d. line_of (Some w) (name_of u i.rule) d) (c.id.ensures ∙ ap (λ o. (object_at p o).id) object) in
    omega (arith, ap length line, line_in_text s w, c.told_length.ensures, ap (λ (x : CursorSeen). length (told_text x w)) c.self.view_is, ap length c.reserve.ensures.items, c.in_ok-reserve.ensures.ok, c.in_ok-reserve.ensures.capacity)

pub returns-else-self-objects-clause-bytes : goal.returns-else-self-objects-clause-bytes
returns-else-self-objects-clause-bytes c =
    let i = c.self.inside in
    let u = i.accepted.now.unit in
    let p = i.population.now.content in
    let w = c.args.verdict in
    let s : CursorSeen = cursor_seen u p i.rule i.at i.here i.before in
    let within : i.rule < length u.rules = is_due s c.self.invariant.1 (subst (λ (x : CursorSeen). IsSome (due x)) (sym c.self.view_is) c.requires) in
    let objects : context_objects u p i.rule ≡ i.objects.now = sym (c.self.invariant.2 within) in
    let there : i.at < length (context_objects u p i.rule) = c.self.invariant.1.some within in
    let left : i.at + 1 < length (context_objects u p i.rule) = omega (arith, there, c.if-self-objects.false, ap length objects) in
    let object : c.index-objects-self.result ≡ get_or (context_objects u p i.rule) i.at 0 =
    c.index-objects-self.is ∙ ap (λ (os : List ℕ). get_or os i.at c.index-objects-self.result) (sym objects) ∙ get_or_default (context_objects u p i.rule) i.at c.index-objects-self.result 0 there in
    let name = c.rule_name-name.result.now in
    let old : List ℕ = c.args.out.now.items in
    let put = line_of (Some w) name c.id.result.now in
    let line : put ≡ line_of (Some w) (name_of u i.rule) (object_at p (get_or (context_objects u p i.rule) i.at 0)).id =
    ap (λ n. line_of (Some w) n c.id.result.now) c.rule_name-name.ensures ∙ ap (λ d. line_of (Some w) (name_of u i.rule) d) (c.id.ensures ∙ ap (λ o. (object_at p o).id) object) in
    let first : c.put_object_line.new.out.items ≡ old ++ put = c.put_object_line.ensures.bytes ∙ ap (λ (x : List ℕ). x ++ put) c.reserve.ensures.items in
    first ∙ here_text s w old put left line ∙ ap (λ (x : CursorSeen). old ++ told_text x w) c.self.view_is

pub returns-else-self-objects-clause-told : goal.returns-else-self-objects-clause-told
returns-else-self-objects-clause-told c =
    let i = c.self.inside in
    let u = i.accepted.now.unit in
    let p = i.population.now.content in
    let w = c.args.verdict in
    let s : CursorSeen = cursor_seen u p i.rule i.at i.here i.before in
    let within : i.rule < length u.rules = is_due s c.self.invariant.1 (subst (λ (x : CursorSeen). IsSome (due x)) (sym c.self.view_is) c.requires) in
    let objects : context_objects u p i.rule ≡ i.objects.now = sym (c.self.invariant.2 within) in
    let there : i.at < length (context_objects u p i.rule) = c.self.invariant.1.some within in
    let left : i.at + 1 < length (context_objects u p i.rule) = omega (arith, there, c.if-self-objects.false, ap length objects) in
    let object : c.index-objects-self.result ≡ get_or (context_objects u p i.rule) i.at 0 =
    c.index-objects-self.is ∙ ap (λ (os : List ℕ). get_or os i.at c.index-objects-self.result) (sym objects) ∙ get_or_default (context_objects u p i.rule) i.at c.index-objects-self.result 0 there in
    let name = c.rule_name-name.result.now in
    let old : List ℕ = c.args.out.now.items in
    let put = line_of (Some w) name c.id.result.now in
    let line : put ≡ line_of (Some w) (name_of u i.rule) (object_at p (get_or (context_objects u p i.rule) i.at 0)).id =
    ap (λ n. line_of (Some w) n c.id.result.now) c.rule_name-name.ensures ∙ ap (λ d. line_of (Some w) (name_of u i.rule) d) (c.id.ensures ∙ ap (λ o. (object_at p o).id) object) in
    let first : c.put_object_line.new.out.items ≡ old ++ put = c.put_object_line.ensures.bytes ∙ ap (λ (x : List ℕ). x ++ put) c.reserve.ensures.items in
    subst (λ (x : CursorSeen). IsToldMore x w old (cursor_seen u p i.rule (i.at + 1) c.count.new.self i.before) c.put_object_line.new.out.items) c.self.view_is
    (told_here_is s w old c.put_object_line.new.out.items c.count.new.self c.self.invariant.1 within left c.count.ensures (first ∙ here_text s w old put left line))

pub invariant_of-self-else-self-objects : goal.invariant_of-self-else-self-objects
invariant_of-self-else-self-objects c =
    let i = c.self.inside in
    let u = i.accepted.now.unit in
    let p = i.population.now.content in
    let w = c.args.verdict in
    let s : CursorSeen = cursor_seen u p i.rule i.at i.here i.before in
    let within : i.rule < length u.rules = is_due s c.self.invariant.1 (subst (λ (x : CursorSeen). IsSome (due x)) (sym c.self.view_is) c.requires) in
    let objects : context_objects u p i.rule ≡ i.objects.now = sym (c.self.invariant.2 within) in
    let there : i.at < length (context_objects u p i.rule) = c.self.invariant.1.some within in
    let left : i.at + 1 < length (context_objects u p i.rule) = omega (arith, there, c.if-self-objects.false, ap length objects) in
    (c.self.invariant.0, placed_here_is s w c.count.new.self c.self.invariant.1 within left c.count.ensures, c.self.invariant.2, c.self.invariant.3, c.self.invariant.4)

pub invariant_of-self : goal.invariant_of-self
invariant_of-self c =
    let i = c.self.inside in
    let u = i.accepted.now.unit in
    let p = i.population.now.content in
    let w = c.args.verdict in
    let s : CursorSeen = cursor_seen u p i.rule i.at i.here i.before in
    let within : i.rule < length u.rules = is_due s c.self.invariant.1 (subst (λ (x : CursorSeen). IsSome (due x)) (sym c.self.view_is) c.requires) in
    let objects : context_objects u p i.rule ≡ i.objects.now = sym (c.self.invariant.2 within) in
    let there : i.at < length (context_objects u p i.rule) = c.self.invariant.1.some within in
    let last : i.at + 1 ≡ length (context_objects u p i.rule) = omega (arith, c.if-self-objects.true, ap length objects) in (
      c.self.invariant.0,
      placed_last_is s w c.empty-self-inside.result c.count.new.self c.add.new.self c.next_rule-next.result c.self.invariant.1 c.consistent.ensures within last c.empty-self-inside.ensures c.count.ensures c.add.ensures c.next_rule-next.ensures,
      c.objects_at-self-inside.ensures.objects,
      c.objects_at-self-inside.ensures.none,
      c.objects_at-self-inside.ensures.each,
    )

pub next_rule-next-requires-clause-from : goal.next_rule-next-requires-clause-from
next_rule-next-requires-clause-from c =
    let i = c.self.inside in
    let u = i.accepted.now.unit in
    let p = i.population.now.content in
    let w = c.args.verdict in
    let s : CursorSeen = cursor_seen u p i.rule i.at i.here i.before in
    let within : i.rule < length u.rules = is_due s c.self.invariant.1 (subst (λ (x : CursorSeen). IsSome (due x)) (sym c.self.view_is) c.requires) in
    omega (arith, within)

pub put_between-requires-clause-from : goal.put_between-requires-clause-from
put_between-requires-clause-from c =
    let i = c.self.inside in
    let u = i.accepted.now.unit in
    let p = i.population.now.content in
    let w = c.args.verdict in
    let s : CursorSeen = cursor_seen u p i.rule i.at i.here i.before in
    let within : i.rule < length u.rules = is_due s c.self.invariant.1 (subst (λ (x : CursorSeen). IsSome (due x)) (sym c.self.view_is) c.requires) in
    omega (arith, c.next_rule-next.ensures, (next_is u p (i.rule + 1) (omega (arith, within))).above)

pub put_between-requires-clause-next : goal.put_between-requires-clause-next
put_between-requires-clause-next c =
    let i = c.self.inside in
    let u = i.accepted.now.unit in
    let p = i.population.now.content in
    let w = c.args.verdict in
    let s : CursorSeen = cursor_seen u p i.rule i.at i.here i.before in
    let within : i.rule < length u.rules = is_due s c.self.invariant.1 (subst (λ (x : CursorSeen). IsSome (due x)) (sym c.self.view_is) c.requires) in
    omega (arith, within, c.next_rule-next.ensures, (next_is u p (i.rule + 1) (omega (arith, within))).within)

pub objects_at-self-inside-requires-clause-within : goal.objects_at-self-inside-requires-clause-within
objects_at-self-inside-requires-clause-within c =
    let i = c.self.inside in
    let u = i.accepted.now.unit in
    let p = i.population.now.content in
    let s : CursorSeen = cursor_seen u p i.rule i.at i.here i.before in
    let within : i.rule < length u.rules = is_due s c.self.invariant.1 (subst (λ (x : CursorSeen). IsSome (due x)) (sym c.self.view_is) c.requires) in
    omega (arith, within, c.next_rule-next.ensures, (next_is u p (i.rule + 1) (omega (arith, within))).within)

pub put_rule_line-requires : goal.put_rule_line-requires
put_rule_line-requires c =
    let i = c.self.inside in
    let u = i.accepted.now.unit in
    let p = i.population.now.content in
    let w = c.args.verdict in
    let s : CursorSeen = cursor_seen u p i.rule i.at i.here i.before in
    let within : i.rule < length u.rules = is_due s c.self.invariant.1 (subst (λ (x : CursorSeen). IsSome (due x)) (sym c.self.view_is) c.requires) in
    let objects : context_objects u p i.rule ≡ i.objects.now = sym (c.self.invariant.2 within) in
    let there : i.at < length (context_objects u p i.rule) = c.self.invariant.1.some within in
    let last : i.at + 1 ≡ length (context_objects u p i.rule) = omega (arith, c.if-self-objects.true, ap length objects) in
    let object : c.index-objects-self.result ≡ get_or (context_objects u p i.rule) i.at 0 =
    c.index-objects-self.is ∙ ap (λ (os : List ℕ). get_or os i.at c.index-objects-self.result) (sym objects) ∙ get_or_default (context_objects u p i.rule) i.at c.index-objects-self.result 0 there in
    let name = c.rule_name-name.result.now in
    let old : List ℕ = c.args.out.now.items in
    let put = line_of (Some w) name c.id.result.now in
    let line : put ≡ line_of (Some w) (name_of u i.rule) (object_at p (get_or (context_objects u p i.rule) i.at 0)).id =
    ap (λ n. line_of (Some w) n c.id.result.now) c.rule_name-name.ensures ∙ ap (λ d. line_of (Some w) (name_of u i.rule) d) (c.id.ensures ∙ ap (λ o. (object_at p o).id) object) in
    let first : c.put_object_line.new.out.items ≡ old ++ put = c.put_object_line.ensures.bytes ∙ ap (λ (x : List ℕ). x ++ put) c.reserve.ensures.items in
    let put_rule = rule_line_of name (length i.objects.now) c.count.new.self in
    let rule_line : put_rule ≡ rule_line_of (name_of u i.rule) (length (context_objects u p i.rule)) c.count.new.self =
    ap (λ n. rule_line_of n (length i.objects.now) c.count.new.self) c.rule_name-name.ensures ∙ ap (λ (os : List ℕ). rule_line_of (name_of u i.rule) (length os) c.count.new.self) (sym objects) in
    let t : LastTold s w old put c.count.new.self (counts_joined i.before c.count.new.self) (next_rule u p (i.rule + 1)) = record { last = last; line_is = line; here_is = c.count.ensures; before_is = refl; next_is = refl } in
    let whole = last_text s w old put c.count.new.self (counts_joined i.before c.count.new.self) (next_rule u p (i.rule + 1)) t in
    let rule_text = rule_line_of (name_of u i.rule) (length (context_objects u p i.rule)) c.count.new.self in
    let between = lines_between u (i.rule + 1) (next_rule u p (i.rule + 1)) (counts_joined i.before c.count.new.self) in
    let enough : length (told_text s w) ≤ c.told_length.result = omega (arith, c.told_length.ensures, ap (λ (x : CursorSeen). length (told_text x w)) c.self.view_is) in
    let lengths : length old + length put + length rule_text + length between ≡ length old + length (told_text s w) =
    omega (arith, ap length whole, length-append ((old ++ put) ++ rule_text) between, length-append (old ++ put) rule_text, length-append old put, length-append old (told_text s w)) in
    let size : length c.put_object_line.new.out.items ≡ length old + length put = ap length first ∙ length-append old put in
    let kept : length c.reserve.new.self.items ≡ length old = ap length c.reserve.ensures.items in
    let fits : length c.put_object_line.new.out.items + length put_rule ≤ vec_capacity c.put_object_line.new.out =
    omega (arith, enough, lengths, size, kept, ap length rule_line, c.in_ok-reserve.ensures.ok, c.put_object_line.ensures.room, c.reserve.new.self.ok.0) in
    fits

pub put_between-requires-clause-room : goal.put_between-requires-clause-room
put_between-requires-clause-room c =
    let i = c.self.inside in
    let u = i.accepted.now.unit in
    let p = i.population.now.content in
    let w = c.args.verdict in
    let s : CursorSeen = cursor_seen u p i.rule i.at i.here i.before in
    let within : i.rule < length u.rules = is_due s c.self.invariant.1 (subst (λ (x : CursorSeen). IsSome (due x)) (sym c.self.view_is) c.requires) in
    let objects : context_objects u p i.rule ≡ i.objects.now = sym (c.self.invariant.2 within) in
    let there : i.at < length (context_objects u p i.rule) = c.self.invariant.1.some within in
    let last : i.at + 1 ≡ length (context_objects u p i.rule) = omega (arith, c.if-self-objects.true, ap length objects) in
    let object : c.index-objects-self.result ≡ get_or (context_objects u p i.rule) i.at 0 =
    c.index-objects-self.is ∙ ap (λ (os : List ℕ). get_or os i.at c.index-objects-self.result) (sym objects) ∙ get_or_default (context_objects u p i.rule) i.at c.index-objects-self.result 0 there in
    let name = c.rule_name-name.result.now in
    let old : List ℕ = c.args.out.now.items in
    let put = line_of (Some w) name c.id.result.now in
    let line : put ≡ line_of (Some w) (name_of u i.rule) (object_at p (get_or (context_objects u p i.rule) i.at 0)).id =
    ap (λ n. line_of (Some w) n c.id.result.now) c.rule_name-name.ensures ∙ ap (λ d. line_of (Some w) (name_of u i.rule) d) (c.id.ensures ∙ ap (λ o. (object_at p o).id) object) in
    let first : c.put_object_line.new.out.items ≡ old ++ put = c.put_object_line.ensures.bytes ∙ ap (λ (x : List ℕ). x ++ put) c.reserve.ensures.items in
    let put_rule = rule_line_of name (length i.objects.now) c.count.new.self in
    let rule_line : put_rule ≡ rule_line_of (name_of u i.rule) (length (context_objects u p i.rule)) c.count.new.self =
    ap (λ n. rule_line_of n (length i.objects.now) c.count.new.self) c.rule_name-name.ensures ∙ ap (λ (os : List ℕ). rule_line_of (name_of u i.rule) (length os) c.count.new.self) (sym objects) in
    let t : LastTold s w old put c.count.new.self c.add.new.self c.next_rule-next.result = record { last = last; line_is = line; here_is = c.count.ensures; before_is = c.add.ensures; next_is = c.next_rule-next.ensures } in
    let whole = last_text s w old put c.count.new.self c.add.new.self c.next_rule-next.result t in
    let rule_text = rule_line_of (name_of u i.rule) (length (context_objects u p i.rule)) c.count.new.self in
    let between = lines_between u (i.rule + 1) c.next_rule-next.result c.add.new.self in
    let enough : length (told_text s w) ≤ c.told_length.result = omega (arith, c.told_length.ensures, ap (λ (x : CursorSeen). length (told_text x w)) c.self.view_is) in
    let lengths : length old + length put + length rule_text + length between ≡ length old + length (told_text s w) =
    omega (arith, ap length whole, length-append ((old ++ put) ++ rule_text) between, length-append (old ++ put) rule_text, length-append old put, length-append old (told_text s w)) in
    let size : length c.put_object_line.new.out.items ≡ length old + length put = ap length first ∙ length-append old put in
    let kept : length c.reserve.new.self.items ≡ length old = ap length c.reserve.ensures.items in
    omega (arith, enough, lengths, size, kept, ap length rule_line, c.in_ok-reserve.ensures.ok, c.put_object_line.ensures.room, c.put_rule_line.ensures.room, c.reserve.new.self.ok.0, ap length c.put_rule_line.ensures.bytes, length-append c.put_object_line.new.out.items put_rule)

pub returns-then-self-objects-clause-bytes : goal.returns-then-self-objects-clause-bytes
returns-then-self-objects-clause-bytes c =
    let i = c.self.inside in
    let u = i.accepted.now.unit in
    let p = i.population.now.content in
    let w = c.args.verdict in
    let s : CursorSeen = cursor_seen u p i.rule i.at i.here i.before in
    let within : i.rule < length u.rules = is_due s c.self.invariant.1 (subst (λ (x : CursorSeen). IsSome (due x)) (sym c.self.view_is) c.requires) in
    let objects : context_objects u p i.rule ≡ i.objects.now = sym (c.self.invariant.2 within) in
    let there : i.at < length (context_objects u p i.rule) = c.self.invariant.1.some within in
    let last : i.at + 1 ≡ length (context_objects u p i.rule) = omega (arith, c.if-self-objects.true, ap length objects) in
    let object : c.index-objects-self.result ≡ get_or (context_objects u p i.rule) i.at 0 =
    c.index-objects-self.is ∙ ap (λ (os : List ℕ). get_or os i.at c.index-objects-self.result) (sym objects) ∙ get_or_default (context_objects u p i.rule) i.at c.index-objects-self.result 0 there in
    let name = c.rule_name-name.result.now in
    let old : List ℕ = c.args.out.now.items in
    let put = line_of (Some w) name c.id.result.now in
    let line : put ≡ line_of (Some w) (name_of u i.rule) (object_at p (get_or (context_objects u p i.rule) i.at 0)).id =
    ap (λ n. line_of (Some w) n c.id.result.now) c.rule_name-name.ensures ∙ ap (λ d. line_of (Some w) (name_of u i.rule) d) (c.id.ensures ∙ ap (λ o. (object_at p o).id) object) in
    let first : c.put_object_line.new.out.items ≡ old ++ put = c.put_object_line.ensures.bytes ∙ ap (λ (x : List ℕ). x ++ put) c.reserve.ensures.items in
    let put_rule = rule_line_of name (length i.objects.now) c.count.new.self in
    let rule_line : put_rule ≡ rule_line_of (name_of u i.rule) (length (context_objects u p i.rule)) c.count.new.self =
    ap (λ n. rule_line_of n (length i.objects.now) c.count.new.self) c.rule_name-name.ensures ∙ ap (λ (os : List ℕ). rule_line_of (name_of u i.rule) (length os) c.count.new.self) (sym objects) in
    let t : LastTold s w old put c.count.new.self c.add.new.self c.next_rule-next.result = record { last = last; line_is = line; here_is = c.count.ensures; before_is = c.add.ensures; next_is = c.next_rule-next.ensures } in
    let whole = last_text s w old put c.count.new.self c.add.new.self c.next_rule-next.result t in
    let rule_text = rule_line_of (name_of u i.rule) (length (context_objects u p i.rule)) c.count.new.self in
    let between = lines_between u (i.rule + 1) c.next_rule-next.result c.add.new.self in
    let second : c.put_rule_line.new.out.items ≡ (old ++ put) ++ rule_text = c.put_rule_line.ensures.bytes ∙ ap (λ (x : List ℕ). x ++ put_rule) first ∙ ap (λ (x : List ℕ). (old ++ put) ++ x) rule_line in
    let bytes : c.put_between.new.out.items ≡ old ++ told_text s w = c.put_between.ensures.bytes ∙ ap (λ (x : List ℕ). x ++ between) second ∙ whole in
    bytes ∙ ap (λ (x : CursorSeen). old ++ told_text x w) c.self.view_is

pub returns-then-self-objects-clause-told : goal.returns-then-self-objects-clause-told
returns-then-self-objects-clause-told c =
    let i = c.self.inside in
    let u = i.accepted.now.unit in
    let p = i.population.now.content in
    let w = c.args.verdict in
    let s : CursorSeen = cursor_seen u p i.rule i.at i.here i.before in
    let within : i.rule < length u.rules = is_due s c.self.invariant.1 (subst (λ (x : CursorSeen). IsSome (due x)) (sym c.self.view_is) c.requires) in
    let objects : context_objects u p i.rule ≡ i.objects.now = sym (c.self.invariant.2 within) in
    let there : i.at < length (context_objects u p i.rule) = c.self.invariant.1.some within in
    let last : i.at + 1 ≡ length (context_objects u p i.rule) = omega (arith, c.if-self-objects.true, ap length objects) in
    let object : c.index-objects-self.result ≡ get_or (context_objects u p i.rule) i.at 0 =
    c.index-objects-self.is ∙ ap (λ (os : List ℕ). get_or os i.at c.index-objects-self.result) (sym objects) ∙ get_or_default (context_objects u p i.rule) i.at c.index-objects-self.result 0 there in
    let name = c.rule_name-name.result.now in
    let old : List ℕ = c.args.out.now.items in
    let put = line_of (Some w) name c.id.result.now in
    let line : put ≡ line_of (Some w) (name_of u i.rule) (object_at p (get_or (context_objects u p i.rule) i.at 0)).id =
    ap (λ n. line_of (Some w) n c.id.result.now) c.rule_name-name.ensures ∙ ap (λ d. line_of (Some w) (name_of u i.rule) d) (c.id.ensures ∙ ap (λ o. (object_at p o).id) object) in
    let first : c.put_object_line.new.out.items ≡ old ++ put = c.put_object_line.ensures.bytes ∙ ap (λ (x : List ℕ). x ++ put) c.reserve.ensures.items in
    let put_rule = rule_line_of name (length i.objects.now) c.count.new.self in
    let rule_line : put_rule ≡ rule_line_of (name_of u i.rule) (length (context_objects u p i.rule)) c.count.new.self =
    ap (λ n. rule_line_of n (length i.objects.now) c.count.new.self) c.rule_name-name.ensures ∙ ap (λ (os : List ℕ). rule_line_of (name_of u i.rule) (length os) c.count.new.self) (sym objects) in
    let t : LastTold s w old put c.count.new.self c.add.new.self c.next_rule-next.result = record { last = last; line_is = line; here_is = c.count.ensures; before_is = c.add.ensures; next_is = c.next_rule-next.ensures } in
    let whole = last_text s w old put c.count.new.self c.add.new.self c.next_rule-next.result t in
    let rule_text = rule_line_of (name_of u i.rule) (length (context_objects u p i.rule)) c.count.new.self in
    let between = lines_between u (i.rule + 1) c.next_rule-next.result c.add.new.self in
    let second : c.put_rule_line.new.out.items ≡ (old ++ put) ++ rule_text = c.put_rule_line.ensures.bytes ∙ ap (λ (x : List ℕ). x ++ put_rule) first ∙ ap (λ (x : List ℕ). (old ++ put) ++ x) rule_line in
    let bytes : c.put_between.new.out.items ≡ old ++ told_text s w = c.put_between.ensures.bytes ∙ ap (λ (x : List ℕ). x ++ between) second ∙ whole in
    subst (λ (x : CursorSeen). IsToldMore x w old (cursor_seen u p c.next_rule-next.result 0 c.empty-self-inside.result c.add.new.self) c.put_between.new.out.items) c.self.view_is
    (told_last_is s w old c.put_between.new.out.items c.empty-self-inside.result c.add.new.self c.next_rule-next.result c.self.invariant.1 within last c.empty-self-inside.ensures (c.add.ensures ∙ ap (counts_joined i.before) c.count.ensures) c.next_rule-next.ensures bytes)
