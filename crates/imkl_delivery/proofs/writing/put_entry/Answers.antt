use Rattle.std.proofs.Common.{◌≡◌, ◌∙◌, ℕ, Some, Ok, codes, sym, ap, subst, arith}
use Rattle.json.specs.Json.{parse_map}
use Rattle.serde_json.specs.Data.{object, Members, put}
use Rattle.imkl_population.specs.Population.{class_of}
use Rattle.imkl_model.specs.ClassModel.{Model}
use Rattle.imkl_delivery.specs.Pending.{ArePending}
use Rattle.serde_json.proofs.Views.{get_member-put}
use Rattle.token_tree.specs.Tokens.{data_at}
use Rattle.token_tree.proofs.Reading.{data-object, members_next}
use Rattle.imkl_delivery.specs.Loading.{put_members}
use Rattle.imkl_delivery.proofs.Taken.{features_there}
use Rattle.imkl_delivery.proofs.FromTokens.{same_there, leaves_ok, features_are}
use Rattle.imkl_delivery.proofs.writing.put_entry.Goals as goal

pub returns-clause-put : goal.returns-clause-put
returns-clause-put c =
    let t1 = c.opens_object.new.reader in
    let t2 = c.skip_before.new.reader in
    let t3 = c.opens_object-2.new.reader in
    let t4 = c.read_members.new.reader in
    let t5 = c.skip_behind.new.reader in
    let name = codes "features" in
    let before = c.in_ok-skip_before.ensures in
    let read = c.in_ok-named.ensures.there in
    let fs = read.0 in
    let features : data_at 124 t2 ≡ Some (object fs, t4) = ap (data_at 124) c.in_ok-opens_object-2.ensures ∙ data-object 124 t3 (omega arith) ∙ ap (parse_map object) read.1 in
    let turn = members_next 124 before.0 name before.1 t2 t4 (object fs) before.2 features in
    let end = c.in_ok-skip_behind.ensures (put name (object fs) before.0) in
    let whole : data_at 125 c.args.reader.now ≡ Some (object end.0, t5) = ap (data_at 125) c.in_ok-opens_object.ensures ∙ data-object 125 t1 (omega arith) ∙ ap (parse_map object) (before.3 ∙ turn ∙ end.1) in (
      object end.0,
      whole,
      λ w h.
          let there = features_are end.0 fs (end.2 ∙ get_member-put name (object fs) before.0) in
          let pending = subst (λ (m : Model). ArePending m (class_of c.args.builder.now c.args.object) fs c.read_members.new.pending) c.model-model.ensures (subst (λ (k : ℕ). ArePending c.model-model.result.now k fs c.read_members.new.pending) c.class_of-class.ensures.class read.2) in
          let same : fs ≡ w.features = same_there fs w.features _ there (features_there (object end.0) w h) in
          subst (λ (ms : Members). put_members c.args.object ms c.args.builder.now ≡ Ok c.put_pending-written.new.builder) same (leaves_ok c.put_pending-written.result _ _ (sym c.if-is_err.ensures.value) (c.put_pending-written.ensures.leaves fs pending)),
    )
