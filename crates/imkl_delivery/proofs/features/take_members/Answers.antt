use Rattle.std.proofs.Common.{◌≡◌, ◌∙◌, ◌<◌, ◌∷◌, List, ℕ, All, Some, None, false, length, refl, sym, ap, subst, arith, string_bytes}
use Rattle.std.proofs.lemmas.List.Elements.{All-push}
use Rattle.std.specs.Option.{option_or}
use Rattle.serde_json.specs.Find.{get_member}
use Rattle.serde_json.specs.View.{members_view}
use Rattle.serde_json.proofs.Views.{Entry}
use Rattle.imkl_model.specs.ClassModel.{feature_at, feature_number}
use Rattle.imkl_delivery.specs.Loading.{are_features}
use Rattle.imkl_delivery.specs.declared.pending_value.Pending.TheVariants.{Tree}
use Rattle.imkl_delivery.specs.Pending.{pending_at, IsPendingOnly}
use Rattle.imkl_delivery.proofs.Pending.{KeepsFirst, tree_next, only-kept, room-kept}
use Rattle.imkl_delivery.proofs.features.take_members.Goals as goal

pub returns-in_default-clause-unnamed : goal.returns-in_default-clause-unnamed
returns-in_default-clause-unnamed c =
    let m = c.args.model.now in
    let class = c.args.class in
    let none : feature_number m class (string_bytes c.in-Some.name) ≡ None = ap (feature_number m class) (sym c.as_str.ensures.value) ∙ sym (rw c.in_default.is at c.feature_of.ensures.number) in
    let rest : are_features m class (members_view ((c.in-Some.name, c.in-Some.value) ∷ c.next.new.self)) ≡ false = rw none refl in
    λ same. sym c.loop-name.invariant.named ∙ ap (λ (es : List Entry). are_features m class (members_view es)) c.in-Some.ensures.steps ∙ rest

pub loop-name-preserved : goal.loop-name-preserved
loop-name-preserved c =
    let m = c.args.model.now in
    let class = c.args.class in
    let l = c.loop-name in
    let e : Entry = (c.in-Some.name, c.in-Some.value) in
    let es : List Entry = c.next.new.self in
    let f = c.in-Some-feature_of.feature in
    let new = c.keep_first.new.pending in
    let steps = c.in-Some.ensures.steps in
    let found : feature_number m class (string_bytes c.in-Some.name) ≡ Some f = ap (feature_number m class) (sym c.as_str.ensures.value) ∙ sym c.in-Some-feature_of.ensures.number in
    let below : f < length l.pending = omega (arith, c.in-Some-feature_of.ensures.in_range, l.invariant.room, c.requires.room) in
    let kept : KeepsFirst l.pending f (Tree c.in-Some.value) new = (c.keep_first.ensures.kept, c.keep_first.ensures.put) in
    let rest : are_features m class (members_view es) ≡ are_features m class (members_view (e ∷ es)) = rw found refl in
    let items = c.in_ok-push.ensures.items in
    record {
      next = tt;
      finite = tt;
      written = λ g inside here.
          tree_next m class f e es l.pending new c.well_formed-2.ensures found below kept g inside here
          ∙ ap (λ (xs : List Entry). option_or (pending_at l.pending g) (get_member (feature_at m g).name (members_view xs))) (sym steps) ∙ l.invariant.written g inside here;
      named = rest ∙ ap (λ (xs : List Entry). are_features m class (members_view xs)) (sym steps) ∙ l.invariant.named;
      only = subst (λ (fs : List ℕ). IsPendingOnly fs new) (sym items) (only-kept l.named.items l.pending new f (Tree c.in-Some.value) kept l.invariant.only);
      in_range = subst (All (λ g. g < length m.features)) (sym items) (All-push (λ g. g < length m.features) l.named.items f l.invariant.in_range c.in-Some-feature_of.ensures.in_range);
      room = room-kept l.pending new f (Tree c.in-Some.value) kept ∙ l.invariant.room;
    }
