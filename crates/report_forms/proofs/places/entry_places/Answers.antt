use Rattle.std.proofs.Common.{rules, tests, ◌≡◌, ◌+◌, ◌∙◌, List, ◌∷◌, sym, ap, drop, drop-cons, add-one, arith, get_or}
use Rattle.report_forms.specs.declared.places.EntryPlace.{EntryPlace}
use Rattle.report_forms.specs.declared.places.Scan.{Scan}
use Rattle.report_forms.specs.Places.{scan_after, known_after, places_from}
use Rattle.report_forms.proofs.places.entry_places.Goals as goal
use Rattle.report_forms.proofs.places.entry_places.Goals.{then-begins_list, else-begins_list+then-begins_entry+in_ok-push, else-begins_list+else-begins_entry}

pub bytes-preserved : goal.bytes-preserved
bytes-preserved c =
    let s = c.bytes.scan in
    let i = c.bytes.byte-index in
    let bytes = c.args.bytes.now in
    let b = get_or bytes i 0 in
    let known : c.if-begins_list.places.items ≡ known_after s c.bytes.places.items b = elim c.if-begins_list.branch [
      | then-begins_list w ↦ search (rules, tests)
      | else-begins_list+then-begins_entry+in_ok-push w ↦ search (rules, tests)
      | else-begins_list+else-begins_entry w ↦ search (rules, tests)
    ] in
    let here : drop i bytes ≡ b ∷ drop (i + 1) bytes = rw add-one (drop-cons bytes i 0 (omega (arith, c.bytes-test.true))) in
    let after : c.after-scan.result ≡ scan_after s b = c.after-scan.ensures in
    let rest = drop (i + 1) bytes in
    record {
      offset_fits = search (rules, tests);
      line_fits = search (rules, tests);
      column_fits = search (rules, tests);
      depth_fits = search (rules, tests);
      places = c.bytes.invariant.places
          ∙ (ap (places_from s c.bytes.places.items) here
          ∙ (ap (λ (k : List EntryPlace). places_from (scan_after s b) k rest) (sym known)
          ∙ ap (λ (t : Scan). places_from t c.if-begins_list.places.items rest) (sym after)));
    }
