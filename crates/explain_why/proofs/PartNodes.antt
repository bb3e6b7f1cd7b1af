-- The parts of nodes as they lie in memory, by those of what they are made of.
use Rattle.std.proofs.Common.{◌≡◌, ℕ, suc, ◌+◌, ◌-◌, ◌<◌, ◌≤◌, Bool, true, false, if◌then◌else◌, List, [], ◌∷◌, ◌++◌, length, get_or, map, refl, sym, ap, ◌∙◌, rules, arith, append_assoc, Box, Vec, Global}
use Rattle.std.proofs.lemmas.Int.{clamps}
use Rattle.std.proofs.lemmas.List.{append-nil, length-map, take_all, take_min, take_more, take-map}
use Rattle.std.specs.Prelude.{min, take, drop}
use Rattle.std.proofs.Math.Seq.{drop-cons, drop-length}
use Rattle.imkl_population.specs.Population.{Population}
use Rattle.ocl_core.specs.declared.core_tree.Core.{Core, the_lemmas}
use Rattle.ocl_core.specs.declared.core_tree.Core.TheVariants as v
use Rattle.ocl_core.specs.declared.core_tree.CoreLink.{CoreLink, Feature, Operation', AsCollection, Iterate, Fold'}
use Rattle.ocl_core.specs.declared.core_tree.CoreLink.TheVariants as made
use Rattle.ocl_core.specs.declared.core_tree.Iteration.{Iteration}
use Rattle.ocl_base.specs.declared.collection_kind.CollectionKind.{CollectionKind}
use Rattle.ocl_kinds.specs.declared.kind.ScalarKind.{ScalarKind}
use Rattle.ocl_kinds.specs.declared.kind.Kind.{Kind}
use Rattle.std.specs.List.{flat_map}
use Rattle.ocl_core.specs.Core as tree
use Rattle.ocl_core.specs.Core.{CoreTree, lets_of}
use Rattle.ocl_core.specs.CoreView.{core_view, core_link_of, core_spine}
use Rattle.ocl_core.proofs.ForAbove.{core_view-Spine, core_view-Let, core_view-If}
use Rattle.ocl_semantics.specs.Meaning.{meaning}
use Rattle.rule_values.specs.Value.{Element, Value, Collection, element_value}
use Rattle.rule_values.specs.Operations.{is_true, is_false}
use Rattle.rule_values.specs.Endings.{kept_by}
use Rattle.owned_values.specs.declared.value.Element.{Element as OwnedElement}
use Rattle.owned_values.specs.Meant.{meant_element, meant_elements}
use Rattle.ocl_semantics.specs.Evaluated.{bindings, on_null, link_value}
use Rattle.ocl_semantics.proofs.ForAbove.{link_meaning, iterate_is, fold_is}
use Rattle.explain_why.specs.Names.{Naming, past, with_next}
use Rattle.explain_why.specs.NameWalk.{with_all}
use Rattle.explain_why.specs.Values.{value_text}
use Rattle.explain_why.specs.Texts.{text_of}
use Rattle.explain_why.specs.TextWalk.{tree_text, link_text}
use Rattle.explain_why.proofs.NameNodes.{past_link_is}
use Rattle.explain_why.proofs.TextNodes.{link_text_is}
use Rattle.explain_why.specs.Reasons.{choice_reason}
use Rattle.explain_why.specs.Turns.{Turn, told_turns}
use Rattle.explain_why.specs.Explanation.{turns_lines, lines_if, Batch, decides, deciding, beside, more_line, deciding_lines, batch_lines, chosen_lines, part_line, valued_part, iteration_lines, accumulation_lines, explained}
use Rattle.explain_why.specs.PartWalk.{node_reason, node_line, is_source_shown, spine_lines, below_lines, element_lines, step_lines, rest_lines, link_lines, links_lines, let_value_lines, lets_lines}

-- a link after others stands on what they make
spine_last : (before : List CoreLink) (link : CoreLink) (first : CoreTree) → core_spine first (map core_link_of (before ++ link ∷ [])) ≡ core_link_of link (core_spine first (map core_link_of before))
spine_last [] link first = refl
spine_last (l ∷ ls) link first = spine_last ls link (core_link_of l first)

module _ (p : Population) (vars : List Value) (s : Naming) where
  -- a link on a tree: the link, the tree where it is shown, and what else the link has
  pub link_explained : (link : CoreLink) (left : CoreTree) (k : ℕ) → node_line p link left k vars s ++ (lines_if (is_source_shown p (on_null link) vars (meaning p left vars)) (explained p left (suc k) vars s) ++ link_lines p link (suc k) vars (past left s) (meaning p left vars)) ≡ explained p (core_link_of link left) k vars s
  link_explained (Feature feature) left k = search (rules, the_lemmas)
  link_explained (Operation' operator others row) left k = search (rules, the_lemmas)
  link_explained (AsCollection collection element) left k = search (rules, the_lemmas)
  link_explained (Iterate iteration body) left k = search (rules, the_lemmas)
  link_explained (Fold' kind start row body) left k = search (rules, the_lemmas)

  -- lists of lines, grouped by nodes
  regrouped : (a b c d : List ℕ) → (a ++ (b ++ c)) ++ d ≡ a ++ (b ++ (c ++ d))
  regrouped a b c d = append_assoc a (b ++ c) d ∙ ap (λ xs. a ++ xs) (append_assoc b c d)

  -- the last link of a spine, and what is left of it
  spine_step : (before after : List CoreLink) (link : CoreLink) (first : CoreTree) (k : ℕ) → spine_lines p first (before ++ link ∷ []) after k vars s ≡ node_line p link (core_spine first (map core_link_of before)) k vars s ++ (lines_if (is_source_shown p (on_null link) vars (meaning p (core_spine first (map core_link_of before)) vars)) (explained p (core_spine first (map core_link_of before)) (suc k) vars s) ++ links_lines p (link ∷ after) (suc k) vars (past (core_spine first (map core_link_of before)) s) (meaning p (core_spine first (map core_link_of before)) vars))
  spine_step before after link first k =
      let left = core_spine first (map core_link_of before) in
      let v = meaning p left vars in
      let source = lines_if (is_source_shown p (on_null link) vars v) (explained p left (suc k) vars s) in
      let own = link_lines p link (suc k) vars (past left s) v in
      let whole = core_link_of link left in
      let down : k ≡ suc k - 1 = omega arith in
      ap (λ (t : CoreTree). explained p t k vars s ++ links_lines p after k vars (past t s) (meaning p t vars)) (spine_last before link first)
      ∙ ap (λ xs. xs ++ links_lines p after k vars (past whole s) (meaning p whole vars)) (sym (link_explained link left k))
      ∙ regrouped (node_line p link left k vars s) source own (links_lines p after k vars (past whole s) (meaning p whole vars))
      ∙ ap (λ (w : Value). node_line p link left k vars s ++ (source ++ (own ++ links_lines p after k vars (past whole s) w))) (link_meaning p vars link left)
      ∙ ap (λ (n : Naming). node_line p link left k vars s ++ (source ++ (own ++ links_lines p after k vars n (link_value p vars v link)))) (sym (past_link_is link left s))
      ∙ ap (λ n. node_line p link left k vars s ++ (source ++ (own ++ links_lines p after n vars (past (on_null link) (past left s)) (link_value p vars v link)))) down

  -- at the start all links are left
  pub all_links : (first : CoreTree) (links : List CoreLink) (k : ℕ) → spine_lines p first (take (length links) links) (drop (length links) links) k vars s ≡ explained p (core_spine first (map core_link_of links)) k vars s
  all_links first links k =
      ap (λ (ls : List CoreLink). spine_lines p first ls (drop (length links) links) k vars s) (take_all (length links) links (omega arith))
      ∙ ap (λ (ls : List CoreLink). spine_lines p first links ls k vars s) (drop-length links)
      ∙ append-nil (explained p (core_spine first (map core_link_of links)) k vars s)

  -- the last of the links that are left is put, above what is left of the others
  node_put : (all before rest after : List CoreLink) (link : CoreLink) (first : CoreTree) (shown : Bool) (k above : ℕ) (out more whole : List ℕ) → all ≡ before ++ link ∷ [] → rest ≡ link ∷ after → above ≡ suc k → shown ≡ is_source_shown p (on_null link) vars (meaning p (core_spine first (map core_link_of before)) vars) → more ≡ out ++ node_line p link (core_spine first (map core_link_of before)) k vars s → out ++ spine_lines p first all after k vars s ≡ whole → more ++ (lines_if shown (explained p (core_spine first (map core_link_of before)) above vars s) ++ links_lines p rest above vars (past (core_spine first (map core_link_of before)) s) (meaning p (core_spine first (map core_link_of before)) vars)) ≡ whole
  node_put all before rest after link first shown k above out more whole last next up which put so_far =
      let left = core_spine first (map core_link_of before) in
      let v = meaning p left vars in
      let n = past left s in
      ap (λ m. more ++ (lines_if shown (explained p left m vars s) ++ links_lines p rest m vars n v)) up
      ∙ ap (λ (ls : List CoreLink). more ++ (lines_if shown (explained p left (suc k) vars s) ++ links_lines p ls (suc k) vars n v)) next
      ∙ ap (λ (b : Bool). more ++ (lines_if b (explained p left (suc k) vars s) ++ links_lines p (link ∷ after) (suc k) vars n v)) which
      ∙ ap (λ xs. xs ++ (lines_if (is_source_shown p (on_null link) vars v) (explained p left (suc k) vars s) ++ links_lines p (link ∷ after) (suc k) vars n v)) put
      ∙ append_assoc out (node_line p link left k vars s) (lines_if (is_source_shown p (on_null link) vars v) (explained p left (suc k) vars s) ++ links_lines p (link ∷ after) (suc k) vars n v)
      ∙ ap (λ xs. out ++ xs) (sym (spine_step before after link first k))
      ∙ ap (λ (ls : List CoreLink). out ++ spine_lines p first ls after k vars s) (sym last)
      ∙ so_far

  -- where the operand is shown, it is left with the other links
  pub node_goes_on : (all before rest after : List CoreLink) (link : CoreLink) (first : CoreTree) (shown : Bool) (k above : ℕ) (out more whole : List ℕ) → shown ≡ true → all ≡ before ++ link ∷ [] → rest ≡ link ∷ after → above ≡ suc k → shown ≡ is_source_shown p (on_null link) vars (meaning p (core_spine first (map core_link_of before)) vars) → more ≡ out ++ node_line p link (core_spine first (map core_link_of before)) k vars s → out ++ spine_lines p first all after k vars s ≡ whole → more ++ spine_lines p first before rest above vars s ≡ whole
  node_goes_on all before rest after link first shown k above out more whole is last next up which put so_far =
      let left = core_spine first (map core_link_of before) in
      ap (λ (b : Bool). more ++ (lines_if b (explained p left above vars s) ++ links_lines p rest above vars (past left s) (meaning p left vars))) (sym is)
      ∙ node_put all before rest after link first shown k above out more whole last next up which put so_far

  -- else no operand is left
  pub node_ends : (links : List CoreLink) (i : ℕ) (all after : List CoreLink) (link : CoreLink) (first : CoreTree) (shown : Bool) (k above : ℕ) (out more whole : List ℕ) → shown ≡ false → all ≡ take i links ++ link ∷ [] → drop i links ≡ link ∷ after → above ≡ suc k → shown ≡ is_source_shown p (on_null link) vars (meaning p (core_spine first (map core_link_of (take i links))) vars) → more ≡ out ++ node_line p link (core_spine first (map core_link_of (take i links))) k vars s → out ++ spine_lines p first all after k vars s ≡ whole → more ++ below_lines p first links above i false vars s ≡ whole
  node_ends links i all after link first shown k above out more whole is last next up which put so_far =
      let left = core_spine first (map core_link_of (take i links)) in
      ap (λ (b : Bool). more ++ (lines_if b (explained p left above vars s) ++ links_lines p (drop i links) above vars (past left s) (meaning p left vars))) (sym is)
      ∙ node_put all (take i links) (drop i links) after link first shown k above out more whole last next up which put so_far

-- values as variables, and the body that sees them
pub lets_explained : (p : Population) (vs : List CoreTree) (body : CoreTree) (k : ℕ) (vars : List Value) (s : Naming) → lets_lines p vs body k vars s ++ explained p body (k + length vs) (bindings p vs vars) (with_all vs s) ≡ explained p (lets_of vs body) k vars s
lets_explained p [] body k vars s =
    let same : k + 0 ≡ k = omega arith in
    ap (λ n. explained p body n vars s) same
lets_explained p (w ∷ ws) body k vars s =
    let behind = with_next (past w s) in
    let whole = valued_part p (lets_of (w ∷ ws) body) k vars s [] in
    let bound = let_value_lines p w (suc k) vars s in
    let inner = lets_lines p ws body (suc k) (meaning p w vars ∷ vars) behind in
    let last = explained p body (k + suc (length ws)) (bindings p ws (meaning p w vars ∷ vars)) (with_all ws behind) in
    let up : k + suc (length ws) ≡ suc k + length ws = omega arith in
    append_assoc whole (bound ++ inner) last
    ∙ ap (λ xs. whole ++ xs) (append_assoc bound inner last)
    ∙ ap (λ n. whole ++ (bound ++ (inner ++ explained p body n (bindings p ws (meaning p w vars ∷ vars)) (with_all ws behind)))) up
    ∙ ap (λ xs. whole ++ (bound ++ xs)) (lets_explained p ws body (suc k) (meaning p w vars ∷ vars) behind)

-- ---- nodes in memory

-- a first operand with its links
module _ (core : Core) (first : Box Core Global) (links : Vec CoreLink Global) (is : core ≡ v.Spine first links) where
  -- what is left below the nodes is put: the first operand, where it is shown, and what else the links have
  pub spine_put : (p : Population) (vars : List Value) (s n : Naming) (k below from : ℕ) (whole : Bool) (w : Value) (out nodes operand new : List ℕ) → nodes ++ below_lines p (core_view first.value) links.items below from whole vars s ≡ out ++ explained p (core_spine (core_view first.value) (map core_link_of links.items)) k vars s → operand ≡ nodes ++ lines_if whole (explained p (core_view first.value) below vars s) → w ≡ meaning p (core_spine (core_view first.value) (map core_link_of (take from links.items))) vars → n ≡ past (core_spine (core_view first.value) (map core_link_of (take from links.items))) s → new ≡ operand ++ links_lines p (drop from links.items) below vars n w → new ≡ out ++ explained p (core_view core) k vars s
  spine_put p vars s n k below from whole w out nodes operand new before first_put value behind last =
      let left = core_spine (core_view first.value) (map core_link_of (take from links.items)) in
      let source = lines_if whole (explained p (core_view first.value) below vars s) in
      last
      ∙ ap (λ (x : Value). operand ++ links_lines p (drop from links.items) below vars n x) value
      ∙ ap (λ (x : Naming). operand ++ links_lines p (drop from links.items) below vars x (meaning p left vars)) behind
      ∙ ap (λ xs. xs ++ links_lines p (drop from links.items) below vars (past left s) (meaning p left vars)) first_put
      ∙ append_assoc nodes source (links_lines p (drop from links.items) below vars (past left s) (meaning p left vars))
      ∙ before
      ∙ ap (λ (t : CoreTree). out ++ explained p t k vars s) (sym (ap core_view is ∙ core_view-Spine first links))

-- values as variables, and the body that sees them
module _ (core : Core) (values : Vec Core Global) (body : Box Core Global) (is : core ≡ v.Let values body) where
  pub let_parts : (p : Population) (vars : List Value) (s n : Naming) (k below : ℕ) → below ≡ k + length values.items → n ≡ with_all (map core_view values.items) s → lets_lines p (map core_view values.items) (core_view body.value) k vars s ++ explained p (core_view body.value) below (bindings p (map core_view values.items) vars) n ≡ explained p (core_view core) k vars s
  let_parts p vars s n k below deep names =
      ap (λ m. lets_lines p (map core_view values.items) (core_view body.value) k vars s ++ explained p (core_view body.value) m (bindings p (map core_view values.items) vars) n) (deep ∙ ap (λ m. k + m) (sym (length-map values.items core_view)))
      ∙ ap (λ (x : Naming). lets_lines p (map core_view values.items) (core_view body.value) k vars s ++ explained p (core_view body.value) (k + length (map core_view values.items)) (bindings p (map core_view values.items) vars) x) names
      ∙ lets_explained p (map core_view values.items) (core_view body.value) k vars s
      ∙ ap (λ t. explained p t k vars s) (sym (ap core_view is ∙ core_view-Let values body))

  -- and the value of the whole
  pub let_value : (p : Population) (vars : List Value) → meaning p (core_view core) vars ≡ meaning p (lets_of (map core_view values.items) (core_view body.value)) vars
  let_value p vars = ap (λ t. meaning p t vars) (ap core_view is ∙ core_view-Let values body)

-- ---- links on what stands before them

-- a line of a link has the text and the value of the link on the tree
pub node_line_is : (p : Population) (link : CoreLink) (left : CoreTree) (k : ℕ) (vars : List Value) (s n : Naming) (operand text : Bool × List ℕ) (v gave : Value) (reason : List ℕ) → n ≡ past left s → operand ≡ tree_text p.model left s → text ≡ link_text p.model n link operand → v ≡ meaning p left vars → gave ≡ link_value p vars v link → reason ≡ node_reason p (on_null link) vars v gave → part_line k text.1 (value_text p gave) reason ≡ node_line p link left k vars s
node_line_is p link left k vars s n operand text v gave reason behind operand_is text_is v_is gave_is reason_is =
    let whole : text ≡ tree_text p.model (core_link_of link left) s =
    text_is ∙ ap (link_text p.model n link) operand_is ∙ ap (λ (x : Naming). link_text p.model x link (tree_text p.model left s)) behind ∙ link_text_is p.model link left s in
    let given : gave ≡ meaning p (core_link_of link left) vars =
    gave_is ∙ ap (λ (w : Value). link_value p vars w link) v_is ∙ sym (link_meaning p vars link left) in
    let why : reason ≡ node_reason p (on_null link) vars (meaning p left vars) (meaning p (core_link_of link left) vars) =
    reason_is ∙ ap (λ (w : Value). node_reason p (on_null link) vars w gave) v_is ∙ ap (node_reason p (on_null link) vars (meaning p left vars)) given in
    ap (λ (t : Bool × List ℕ). part_line k t.1 (value_text p gave) reason) whole
    ∙ ap (λ (w : Value). part_line k (text_of p.model (core_link_of link left) s) (value_text p w) reason) given
    ∙ ap (part_line k (text_of p.model (core_link_of link left) s) (value_text p (meaning p (core_link_of link left) vars))) why

-- an iteration and a fold on a value have the lines of the nodes
module _ (p : Population) (link : CoreLink) (k : ℕ) (vars : List Value) (s : Naming) (v : Value) where
  pub iterate_lines : (i : Iteration) (body : Core) → link ≡ made.Iterate i body → iteration_lines i (element_lines p (core_view body) k vars s) (λ e. meaning p (core_view body) (element_value e ∷ vars)) k v ≡ link_lines p link k vars s v
  iterate_lines i body is = ap (λ (n : CoreTree). rest_lines p n k vars s v) (sym (iterate_is link i body is))

  fold_lines : (kind : ScalarKind) (start : Box Core Global) (body : Core) → link ≡ made.Fold kind start body → explained p (core_view start.value) k vars s ++ accumulation_lines (step_lines p (core_view body) k vars (past (core_view start.value) s)) (λ e a. meaning p (core_view body) (a ∷ element_value e ∷ vars)) k (meaning p (core_view start.value) vars) v ≡ link_lines p link k vars s v
  fold_lines kind start body is = ap (λ (n : CoreTree). rest_lines p n k vars s v) (sym (fold_is link kind start body is))

-- a link comes off the end of those that are left
pub last_taken : (ls : List CoreLink) (n : ℕ) (l : CoreLink) → 0 < n → n ≤ length ls → l ≡ get_or ls (n - 1) l → take n ls ≡ take (n - 1) ls ++ l ∷ []
last_taken ls n l some within is =
    let same : n ≡ (n - 1) + 1 = omega (arith, some) in
    ap (λ m. take m ls) same ∙ take_more ls (n - 1) l (omega (arith, some, within)) ∙ ap (λ (x : CoreLink). take (n - 1) ls ++ x ∷ []) (sym is)

-- and off the front of those after it
pub next_left : (ls : List CoreLink) (n : ℕ) (l : CoreLink) → 0 < n → n ≤ length ls → l ≡ get_or ls (n - 1) l → drop (n - 1) ls ≡ l ∷ drop n ls
next_left ls n l some within is =
    let same : suc (n - 1) ≡ n = omega (arith, some) in
    drop-cons ls (n - 1) l (omega (arith, some, within)) ∙ ap (λ (x : CoreLink). x ∷ drop (suc (n - 1)) ls) (sym is) ∙ ap (λ m. l ∷ drop m ls) same

-- the first of some elements, and how many more there are
pub shown_lines : (f : List Element → List ℕ) (more : ℕ → List ℕ) (most n : ℕ) (items : List OwnedElement) (es : List Element) → meant_elements items ≡ es → n ≡ min (length items) most → f (meant_elements (take n items)) ++ more (length items - n) ≡ f (take most es) ++ more (length es - most)
shown_lines f more most n items es held is =
    let long : length (meant_elements items) ≡ length items = length-map items meant_element in
    let same : n ≡ min most (length (meant_elements items)) = omega (arith, clamps, is, long) in
    let left : length items - n ≡ length (meant_elements items) - most = omega (arith, clamps, is, long) in
    ap (λ xs. f xs ++ more (length items - n)) (sym (take-map meant_element n items) ∙ ap (λ m. take m (meant_elements items)) same ∙ take_min most (meant_elements items))
    ∙ ap (λ m. f (take most (meant_elements items)) ++ more m) left
    ∙ ap (λ (xs : List Element). f (take most xs) ++ more (length xs - most)) held

-- the turns that are told of, and how many more there are
pub turns_shown : (show : Element → Value → List ℕ) (k n : ℕ) (told ts : List Turn) → told ≡ told_turns ts → n ≡ length ts - length told → flat_map (λ t. show t.element t.before) told ++ more_line k n ≡ turns_lines show k ts
unfolding turns_lines
turns_shown show k n told ts is count =
    ap (λ m. flat_map (λ t. show t.element t.before) told ++ more_line k m) count
    ∙ ap (λ (xs : List Turn). flat_map (λ t. show t.element t.before) xs ++ more_line k (length ts - length xs)) is

-- ---- what was put, one after another

-- two texts were put, of which the whole is made
pub two_put : (old mid new a b whole : List ℕ) → mid ≡ old ++ a → new ≡ mid ++ b → a ++ b ≡ whole → new ≡ old ++ whole
two_put old mid new a b whole first second is =
    second ∙ ap (λ xs. xs ++ b) first ∙ append_assoc old a b ∙ ap (λ xs. old ++ xs) is

-- and three
pub three_put : (old mid next new a b c whole : List ℕ) → mid ≡ old ++ a → next ≡ mid ++ b → new ≡ next ++ c → a ++ (b ++ c) ≡ whole → new ≡ old ++ whole
three_put old mid next new a b c whole first second third is =
    two_put old mid new a (b ++ c) whole first (two_put mid next new b c (b ++ c) second third refl) is

-- a fold's start value, and the turns that tell how it came to its value
pub fold_put : (p : Population) (link : CoreLink) (k : ℕ) (vars : List Value) (s n : Naming) (v w : Value) (kind : ScalarKind) (start : Box Core Global) (body : Core) → link ≡ made.Fold kind start body
    → (out front new : List ℕ) → front ≡ out ++ explained p (core_view start.value) k vars s → w ≡ meaning p (core_view start.value) vars → n ≡ past (core_view start.value) s
    → new ≡ front ++ accumulation_lines (step_lines p (core_view body) k vars n) (λ e a. meaning p (core_view body) (a ∷ element_value e ∷ vars)) k w v
    → new ≡ out ++ link_lines p link k vars s v
fold_put p link k vars s n v w kind start body is out front new first value behind last =
    let next : Element → Value → Value = λ e a. meaning p (core_view body) (a ∷ element_value e ∷ vars) in
    two_put out front new (explained p (core_view start.value) k vars s) (accumulation_lines (step_lines p (core_view body) k vars (past (core_view start.value) s)) next k (meaning p (core_view start.value) vars) v) (link_lines p link k vars s v) first
    (last
    ∙ ap (λ (x : Value). front ++ accumulation_lines (step_lines p (core_view body) k vars n) next k x v) value
    ∙ ap (λ (x : Naming). front ++ accumulation_lines (step_lines p (core_view body) k vars x) next k (meaning p (core_view start.value) vars) v) behind)
    (fold_lines p link k vars s v kind start body is)

-- ---- a choice

module _ (core : Core) (kind : Kind) (condition then_branch else_branch : Box Core Global) (is : core ≡ v.If kind condition then_branch else_branch) (p : Population) (k : ℕ) (vars : List Value) (s : Naming) (w : Value) (chosen : w ≡ meaning p (core_view condition.value) vars) where
  -- its line, its condition, and the branch that is chosen
  choice_is : valued_part p (core_view core) k vars s (choice_reason w) ++ (explained p (core_view condition.value) (suc k) vars s ++ chosen_lines w (explained p (core_view then_branch.value) (suc k) vars (past (core_view condition.value) s)) (explained p (core_view else_branch.value) (suc k) vars (past (core_view then_branch.value) (past (core_view condition.value) s)))) ≡ explained p (core_view core) k vars s
  choice_is =
      let view = ap core_view is ∙ core_view-If kind condition then_branch else_branch in
      ap (λ t. valued_part p t k vars s (choice_reason w) ++ (explained p (core_view condition.value) (suc k) vars s ++ chosen_lines w (explained p (core_view then_branch.value) (suc k) vars (past (core_view condition.value) s)) (explained p (core_view else_branch.value) (suc k) vars (past (core_view then_branch.value) (past (core_view condition.value) s))))) view
      ∙ ap (λ (x : Value). valued_part p (tree.If kind (core_view condition.value) (core_view then_branch.value) (core_view else_branch.value)) k vars s (choice_reason x) ++ (explained p (core_view condition.value) (suc k) vars s ++ chosen_lines x (explained p (core_view then_branch.value) (suc k) vars (past (core_view condition.value) s)) (explained p (core_view else_branch.value) (suc k) vars (past (core_view then_branch.value) (past (core_view condition.value) s))))) chosen
      ∙ ap (λ t. explained p t k vars s) (sym view)

  -- the first branch
  pub first_parts : is_true w ≡ true → valued_part p (core_view core) k vars s (choice_reason w) ++ (explained p (core_view condition.value) (suc k) vars s ++ explained p (core_view then_branch.value) (suc k) vars (past (core_view condition.value) s)) ≡ explained p (core_view core) k vars s
  first_parts so =
      ap (λ (b : Bool). valued_part p (core_view core) k vars s (choice_reason w) ++ (explained p (core_view condition.value) (suc k) vars s ++ (if b then explained p (core_view then_branch.value) (suc k) vars (past (core_view condition.value) s) else (if is_false w then explained p (core_view else_branch.value) (suc k) vars (past (core_view then_branch.value) (past (core_view condition.value) s)) else [])))) (sym so)
      ∙ choice_is

  -- the second
  pub second_parts : is_true w ≡ false → is_false w ≡ true → valued_part p (core_view core) k vars s (choice_reason w) ++ (explained p (core_view condition.value) (suc k) vars s ++ explained p (core_view else_branch.value) (suc k) vars (past (core_view then_branch.value) (past (core_view condition.value) s))) ≡ explained p (core_view core) k vars s
  second_parts unlike so =
      ap (λ (b : Bool). valued_part p (core_view core) k vars s (choice_reason w) ++ (explained p (core_view condition.value) (suc k) vars s ++ (if b then explained p (core_view else_branch.value) (suc k) vars (past (core_view then_branch.value) (past (core_view condition.value) s)) else []))) (sym so)
      ∙ ap (λ (b : Bool). valued_part p (core_view core) k vars s (choice_reason w) ++ (explained p (core_view condition.value) (suc k) vars s ++ (if b then explained p (core_view then_branch.value) (suc k) vars (past (core_view condition.value) s) else (if is_false w then explained p (core_view else_branch.value) (suc k) vars (past (core_view then_branch.value) (past (core_view condition.value) s)) else [])))) (sym unlike)
      ∙ choice_is

  -- neither
  pub no_parts : is_true w ≡ false → is_false w ≡ false → valued_part p (core_view core) k vars s (choice_reason w) ++ explained p (core_view condition.value) (suc k) vars s ≡ explained p (core_view core) k vars s
  no_parts unlike neither =
      ap (λ xs. valued_part p (core_view core) k vars s (choice_reason w) ++ xs) (sym (append-nil (explained p (core_view condition.value) (suc k) vars s)))
      ∙ ap (λ (b : Bool). valued_part p (core_view core) k vars s (choice_reason w) ++ (explained p (core_view condition.value) (suc k) vars s ++ (if b then explained p (core_view else_branch.value) (suc k) vars (past (core_view then_branch.value) (past (core_view condition.value) s)) else []))) (sym neither)
      ∙ ap (λ (b : Bool). valued_part p (core_view core) k vars s (choice_reason w) ++ (explained p (core_view condition.value) (suc k) vars s ++ (if b then explained p (core_view then_branch.value) (suc k) vars (past (core_view condition.value) s) else (if is_false w then explained p (core_view else_branch.value) (suc k) vars (past (core_view then_branch.value) (past (core_view condition.value) s)) else [])))) (sym unlike)
      ∙ choice_is

-- ---- elements that decide

-- of a batch so many are shown, and how many more there are
pub batch_shown : (show : Element → List ℕ) (k : ℕ) (g : Batch) (es : List Element) (bs : List Value) (items : List OwnedElement) (most n : ℕ) → most ≡ g.most → meant_elements items ≡ kept_by (decides g.which) es bs → n ≡ min (length items) most → flat_map show (meant_elements (take n items)) ++ more_line k (length items - n) ≡ batch_lines show k g es bs
batch_shown show k g es bs items most n most_is held is =
    shown_lines (flat_map show) (more_line k) most n items (kept_by (decides g.which) es bs) held is
    ∙ ap (λ m. deciding_lines show k m (kept_by (decides g.which) es bs)) most_is

-- of an iteration two batches
pub iteration_shown : (i : Iteration) (show : Element → List ℕ) (body : Element → Value) (k : ℕ) (c : CollectionKind) (es : List Element) (bs : List Value) (first second : Batch) → bs ≡ map body es → first ≡ deciding i bs → second ≡ beside i bs → batch_lines show k first es bs ++ batch_lines show k second es bs ≡ iteration_lines i show body k (Collection c es)
iteration_shown i show body k c es bs first second bodies first_is second_is =
    ap (λ (g : Batch). batch_lines show k g es bs ++ batch_lines show k second es bs) first_is
    ∙ ap (λ (g : Batch). batch_lines show k (deciding i bs) es bs ++ batch_lines show k g es bs) second_is
    ∙ ap (λ (xs : List Value). batch_lines show k (deciding i xs) es xs ++ batch_lines show k (beside i xs) es xs) bodies
