-- Instructions: an opcode, then the fields of its row in the table.
use Rattle.std.proofs.Common.{◌≡◌, ℕ, ℤ, ◌^◌, ◌<◌, Bool, true, List, [], ◌∷◌, ◌++◌, length, Option, Some, None, Ok, refl, sym, ap, subst, ◌∙◌, append_assoc}
use Rattle.std.specs.Int.{w16}
use Rattle.std.specs.List.{AllByRecursion}
use Rattle.std.proofs.lemmas.List.{append-nil}
use Rattle.ocl_base.specs.declared.collection_kind.CollectionKind.{CollectionKind}
use Rattle.ocl_base.specs.Steps.{◌>>=◌}
use Rattle.ocl_base.proofs.ForAbove.{both_steps, ok_is}
use Rattle.rule_code.specs.declared.fault.CodeFlaw.TheVariants as flaws
use Rattle.rule_code.specs.declared.instruction.Instr.{Instr}
use Rattle.rule_code.specs.declared.instruction.Instr.TheVariants as instrs
use Rattle.rule_code.specs.declared.kind.WrittenScalar.{WrittenScalar}
use Rattle.rule_code.specs.declared.kind.WrittenKind.{WrittenKind}
use Rattle.rule_code.specs.declared.symbol.SymbolNumber.{SymbolNumber}
use Rattle.rule_code.specs.declared.symbol.TextNumber.{TextNumber}
use Rattle.rule_code.specs.declared.version.Version.{Version}
use Rattle.rule_code.specs.declared.version.Version.TheVariants as versions
use Rattle.rule_code.specs.FileVersion.{has_instr}
use Rattle.rule_code.specs.Preamble.{Preamble}
use Rattle.rule_code.specs.InstrRows.{FieldValue, integer_field, boolean_field, number_field, text_field, symbol_field, scalar_field, collection_field, kind_field, instr_row, row_of}
use Rattle.rule_code.specs.Spelling.{field_bytes, fields_bytes, instr}
use Rattle.rule_code.specs.WellFormed.{FieldFits, InstrFits}
use Rattle.rule_code.specs.Reading.{FieldRead, wrong, number_from, text_number_from, symbol_number_from}
use Rattle.rule_code.specs.KindReading.{row_numbered, single_kind_from, collection_kind_from, kind_from}
use Rattle.rule_code.specs.Opcodes.{Fields, made, integer, boolean, number, text, symbol, scalar, collection, kind, plain_opcodes, value_opcodes, operation_opcodes, block_opcodes, fold_opcodes, opcodes, integer_from, boolean_from, fields_from, behind, instr_from}
use Rattle.rule_code.proofs.Bytes.{IsBytes, IsBytes-rest, Takes, Takes-then, Takes-behind}
use Rattle.rule_code.proofs.Codec.{IsCodec}
use Rattle.rule_code.proofs.Fields.{number_codec, integer_codec, boolean_codec, text_number_codec, symbol_number_codec}
use Rattle.rule_code.proofs.KindFields.{numbered_right, scalar_codec, collection_codec, kind_codec}

-- ---- what is read is spelled so

-- the instructions that a row makes are of the version, have this opcode and, behind these fields, the row's own
abbrev IsRight : Version → ℕ → List FieldValue → Fields → Type 0
IsRight v opcode before (made i) = (row_of i ≡ instr_row opcode before) × (has_instr v i ≡ true)
IsRight v opcode before (integer next) = (n : ℤ) → IsRight v opcode (before ++ integer_field n ∷ []) (next n)
IsRight v opcode before (boolean next) = (b : Bool) → IsRight v opcode (before ++ boolean_field b ∷ []) (next b)
IsRight v opcode before (number next) = (n : ℕ) → IsRight v opcode (before ++ number_field n ∷ []) (next n)
IsRight v opcode before (text next) = (t : TextNumber) → IsRight v opcode (before ++ text_field t.0 ∷ []) (next t)
IsRight v opcode before (symbol tag next) = (s : SymbolNumber) → IsRight v opcode (before ++ symbol_field tag s.0 ∷ []) (next s)
IsRight v opcode before (scalar next) = (k : WrittenScalar) → IsRight v opcode (before ++ scalar_field k ∷ []) (next k)
IsRight v opcode before (collection next) = (c : CollectionKind) (k : WrittenScalar) → IsRight v opcode (before ++ collection_field c k ∷ []) (next c k)
IsRight v opcode before (kind next) = (k : WrittenKind) → IsRight v opcode (before ++ kind_field k ∷ []) (next k)

abbrev AreRight : Version → List (ℕ × Fields) → Type 0
AreRight v rows = AllByRecursion (λ row. IsRight v row.0 [] row.1) rows

right_with : (v : Version) (rows more : List (ℕ × Fields)) → AreRight v rows → AreRight v more → AreRight v (rows ++ more)
right_with v [] more right others = others
right_with v (row ∷ rows) more right others = (right.0, right_with v rows more right.1 others)

plain_right : (v : Version) → AreRight v plain_opcodes
plain_right v =
    ((refl, refl), ((refl, refl), ((refl, refl), ((refl, refl), ((refl, refl), ((refl, refl), ((refl, refl), ((refl, refl), ((refl, refl), ((refl, refl), ((refl, refl), ((refl, refl), ((refl, refl), ((refl, refl), ((refl, refl), ((refl, refl), ((refl, refl), ((refl, refl), ((refl, refl), ((refl, refl), ((refl, refl), ((refl, refl), ((refl, refl), ((refl, refl), ((refl, refl), ((refl, refl), ((refl, refl), ((refl, refl), ((refl, refl), tt)))))))))))))))))))))))))))))

value_right : (v : Version) → AreRight v value_opcodes
value_right v =
    ((λ n. (refl, refl)), ((λ n. (refl, refl)), ((λ b. (refl, refl)), ((λ t. (refl, refl)), ((λ s. (refl, refl)), ((λ s. (refl, refl)), ((λ s. (refl, refl)), ((λ c k. (refl, refl)), ((λ s. (refl, refl)), ((λ s. (refl, refl)), ((λ s. (refl, refl)), tt)))))))))))

operation_right : (v : Version) → AreRight v operation_opcodes
operation_right v =
    ((λ k. (refl, refl)), ((λ k. (refl, refl)), ((λ k. (refl, refl)), ((λ k. (refl, refl)), ((λ k. (refl, refl)), ((λ k. (refl, refl)), tt))))))

block_right : (v : Version) → AreRight v block_opcodes
block_right v =
    ((λ n. (refl, refl)), ((λ k n m. (refl, refl)), ((λ n. (refl, refl)), ((λ n. (refl, refl)), ((λ n. (refl, refl)), ((λ n. (refl, refl)), ((λ n. (refl, refl)), ((λ n. (refl, refl)), ((λ n. (refl, refl)), ((λ k n. (refl, refl)), tt))))))))))

fold_right : (v : Version) → AreRight v (fold_opcodes v)
fold_right versions.One = tt
fold_right versions.Two = ((λ k n. (refl, refl)), tt)

opcodes_right : (v : Version) → AreRight v (opcodes v)
opcodes_right v =
    right_with v plain_opcodes (value_opcodes ++ operation_opcodes ++ block_opcodes ++ fold_opcodes v) (plain_right v)
    (right_with v value_opcodes (operation_opcodes ++ block_opcodes ++ fold_opcodes v) (value_right v)
    (right_with v operation_opcodes (block_opcodes ++ fold_opcodes v) (operation_right v) (right_with v block_opcodes (fold_opcodes v) (block_right v) (fold_right v))))

-- an instruction fits, and is one of the version
abbrev pub StandsIn : Preamble → Instr → Type 0
StandsIn p i = InstrFits (length p.texts) p.symbols i × (has_instr p.version i ≡ true)

module _ (p : Preamble) (few_texts : length p.texts < 2 ^ 16) (few : length p.symbols < 2 ^ 16) where
  -- an instruction that was read behind its opcode and some of its fields
  record Found (opcode : ℕ) (before : List FieldValue) (rest : List ℕ) (x : Instr × List ℕ) : Type 0 where
    pub fields : List FieldValue
    pub row : row_of x.0 ≡ instr_row opcode (before ++ fields)
    pub taken : Takes rest (fields_bytes fields) x.1
    pub fit : AllByRecursion (FieldFits (length p.texts) p.symbols) fields
    pub known : has_instr p.version x.0 ≡ true

  -- one field more
  field_then : (opcode : ℕ) (before : List FieldValue) (f : FieldValue) (rest after : List ℕ) (x : Instr × List ℕ) → Takes rest (field_bytes f) after → FieldFits (length p.texts) p.symbols f → Found opcode (before ++ f ∷ []) after x → Found opcode before rest x
  field_then opcode before f rest after x first fits others = record {
    fields = f ∷ others.fields;
    row = others.row ∙ ap (instr_row opcode) (append_assoc before (f ∷ []) others.fields);
    taken = Takes-then rest (field_bytes f) after (fields_bytes others.fields) x.1 first others.taken;
    fit = (fits, others.fit);
    known = others.known;
  }

  fields_takes : (opcode : ℕ) (before : List FieldValue) (row : Fields) → IsRight p.version opcode before row → (rest : List ℕ) (x : Instr × List ℕ) → IsBytes rest → fields_from p row rest ≡ Ok x → Found opcode before rest x
  fields_takes opcode before (made i) right rest x fits e =
      subst (λ (y : Instr × List ℕ). Found opcode before rest y) (ok_is (i, rest) x e)
      (record { fields = []; row = right.0 ∙ ap (instr_row opcode) (sym (append-nil before)); taken = record { parts = refl; rest_fits = fits }; fit = tt; known = right.1 })
  fields_takes opcode before (integer next) right rest x fits e =
      let a = both_steps (integer_from rest) (λ n. fields_from p (next n.0) n.1) x e in
      let t = integer_codec.takes rest a.0 fits a.1 in
      field_then opcode before (integer_field a.0.0) rest a.0.1 x t.0 t.1 (fields_takes opcode (before ++ integer_field a.0.0 ∷ []) (next a.0.0) (right a.0.0) a.0.1 x t.0.rest_fits a.2)
  fields_takes opcode before (boolean next) right rest x fits e =
      let a = both_steps (boolean_from rest) (λ n. fields_from p (next n.0) n.1) x e in
      let t = boolean_codec.takes rest a.0 fits a.1 in
      field_then opcode before (boolean_field a.0.0) rest a.0.1 x t.0 t.1 (fields_takes opcode (before ++ boolean_field a.0.0 ∷ []) (next a.0.0) (right a.0.0) a.0.1 x t.0.rest_fits a.2)
  fields_takes opcode before (number next) right rest x fits e =
      let a = both_steps (number_from w16 rest) (λ n. fields_from p (next n.0) n.1) x e in
      let t = number_codec.takes rest a.0 fits a.1 in
      field_then opcode before (number_field a.0.0) rest a.0.1 x t.0 t.1 (fields_takes opcode (before ++ number_field a.0.0 ∷ []) (next a.0.0) (right a.0.0) a.0.1 x t.0.rest_fits a.2)
  fields_takes opcode before (text next) right rest x fits e =
      let a = both_steps (text_number_from (length p.texts) rest) (λ n. fields_from p (next (record { 0 = n.0 })) n.1) x e in
      let t = (text_number_codec (length p.texts) few_texts).takes rest a.0 fits a.1 in
      field_then opcode before (text_field a.0.0) rest a.0.1 x t.0 t.1 (fields_takes opcode (before ++ text_field a.0.0 ∷ []) (next (record { 0 = a.0.0 })) (right (record { 0 = a.0.0 })) a.0.1 x t.0.rest_fits a.2)
  fields_takes opcode before (symbol tag next) right rest x fits e =
      let a = both_steps (symbol_number_from tag p.symbols rest) (λ n. fields_from p (next (record { 0 = n.0 })) n.1) x e in
      let t = (symbol_number_codec tag p.symbols few).takes rest a.0 fits a.1 in
      field_then opcode before (symbol_field tag a.0.0) rest a.0.1 x t.0 t.1 (fields_takes opcode (before ++ symbol_field tag a.0.0 ∷ []) (next (record { 0 = a.0.0 })) (right (record { 0 = a.0.0 })) a.0.1 x t.0.rest_fits a.2)
  fields_takes opcode before (scalar next) right rest x fits e =
      let a = both_steps (single_kind_from p.symbols rest) (λ n. fields_from p (next n.0) n.1) x e in
      let t = (scalar_codec p.symbols few).takes rest a.0 fits a.1 in
      field_then opcode before (scalar_field a.0.0) rest a.0.1 x t.0 t.1 (fields_takes opcode (before ++ scalar_field a.0.0 ∷ []) (next a.0.0) (right a.0.0) a.0.1 x t.0.rest_fits a.2)
  fields_takes opcode before (collection next) right rest x fits e =
      let a = both_steps (collection_kind_from p.symbols rest) (λ n. fields_from p (next n.0.0 n.0.1) n.1) x e in
      let t = (collection_codec p.symbols few).takes rest a.0 fits a.1 in
      field_then opcode before (collection_field a.0.0.0 a.0.0.1) rest a.0.1 x t.0 t.1 (fields_takes opcode (before ++ collection_field a.0.0.0 a.0.0.1 ∷ []) (next a.0.0.0 a.0.0.1) (right a.0.0.0 a.0.0.1) a.0.1 x t.0.rest_fits a.2)
  fields_takes opcode before (kind next) right rest x fits e =
      let a = both_steps (kind_from p.symbols rest) (λ n. fields_from p (next n.0) n.1) x e in
      let t = (kind_codec p.symbols few).takes rest a.0 fits a.1 in
      field_then opcode before (kind_field a.0.0) rest a.0.1 x t.0 t.1 (fields_takes opcode (before ++ kind_field a.0.0 ∷ []) (next a.0.0) (right a.0.0) a.0.1 x t.0.rest_fits a.2)

  behind_takes : (opcode : ℕ) (row : Option Fields) → ((r : Fields) → row ≡ Some r → IsRight p.version opcode [] r) → (here rest : List ℕ) (x : Instr × List ℕ) → IsBytes rest → behind p row here rest ≡ Ok x → Found opcode [] rest x
  behind_takes opcode None right here rest x fits e = absurd (let bad : wrong flaws.BadOpcode here ≡ Ok x = e in cc)
  behind_takes opcode (Some row) right here rest x fits e = fields_takes opcode [] row (right row refl) rest x fits e

  instr_takes : (bytes : List ℕ) (x : Instr × List ℕ) → IsBytes bytes → instr_from p bytes ≡ Ok x → Takes bytes (instr x.0) x.1 × StandsIn p x.0
  unfolding instr_from
  instr_takes [] x fits e = absurd cc
  instr_takes (opcode ∷ rest) x fits e =
      let f = behind_takes opcode (row_numbered (opcodes p.version) opcode) (λ r found. numbered_right (λ n row. IsRight p.version n [] row) (opcodes p.version) (opcodes_right p.version) opcode r found) (opcode ∷ rest) rest x (IsBytes-rest opcode rest fits) e in
      (rw f.row (Takes-behind opcode rest (fields_bytes f.fields) x.1 f.taken), (rw f.row f.fit, f.known))

  -- ---- what is spelled so is read

  -- a row makes this instruction of these fields
  abbrev Makes : Fields → List FieldValue → Instr → Type 0
  Makes (made i) [] x = i ≡ x
  Makes (integer next) (integer_field n ∷ fs) x = Makes (next n) fs x
  Makes (boolean next) (boolean_field b ∷ fs) x = Makes (next b) fs x
  Makes (number next) (number_field n ∷ fs) x = Makes (next n) fs x
  Makes (text next) (text_field n ∷ fs) x = Makes (next (record { 0 = n })) fs x
  Makes (symbol tag next) (symbol_field other n ∷ fs) x = (other ≡ tag) × Makes (next (record { 0 = n })) fs x
  Makes (scalar next) (scalar_field k ∷ fs) x = Makes (next k) fs x
  Makes (collection next) (collection_field c k ∷ fs) x = Makes (next c k) fs x
  Makes (kind next) (kind_field k ∷ fs) x = Makes (next k) fs x
  Makes row fs x = ⊥

  -- a field is read, then the others
  then_again : {A : Type 0} (f : List ℕ → FieldRead A) (go : A × List ℕ → FieldRead Instr) (bytes others rest : List ℕ) (a : A) (x : Instr) → f (bytes ++ (others ++ rest)) ≡ Ok (a, others ++ rest) → go (a, others ++ rest) ≡ Ok (x, rest) → (f ((bytes ++ others) ++ rest) >>= go) ≡ Ok (x, rest)
  then_again {A} f go bytes others rest a x first second =
      ap (λ (all : List ℕ). f all >>= go) (append_assoc bytes others rest) ∙ ap (λ (r : FieldRead A). r >>= go) first ∙ second

  fields_again : (row : Fields) (fs : List FieldValue) (x : Instr) → Makes row fs x → AllByRecursion (FieldFits (length p.texts) p.symbols) fs → (rest : List ℕ) → fields_from p row (fields_bytes fs ++ rest) ≡ Ok (x, rest)
  fields_again (made i) [] x makes fits rest = ap (λ (j : Instr). Ok (j, rest)) makes
  fields_again (integer next) (integer_field n ∷ fs) x makes fits rest =
      then_again integer_from (λ n. fields_from p (next n.0) n.1) (field_bytes (integer_field n)) (fields_bytes fs) rest n x (integer_codec.again n (fields_bytes fs ++ rest) fits.0) (fields_again (next n) fs x makes fits.1 rest)
  fields_again (boolean next) (boolean_field n ∷ fs) x makes fits rest =
      then_again boolean_from (λ n. fields_from p (next n.0) n.1) (field_bytes (boolean_field n)) (fields_bytes fs) rest n x (boolean_codec.again n (fields_bytes fs ++ rest) fits.0) (fields_again (next n) fs x makes fits.1 rest)
  fields_again (number next) (number_field n ∷ fs) x makes fits rest =
      then_again (number_from w16) (λ n. fields_from p (next n.0) n.1) (field_bytes (number_field n)) (fields_bytes fs) rest n x (number_codec.again n (fields_bytes fs ++ rest) fits.0) (fields_again (next n) fs x makes fits.1 rest)
  fields_again (text next) (text_field n ∷ fs) x makes fits rest =
      then_again (text_number_from (length p.texts)) (λ n. fields_from p (next (record { 0 = n.0 })) n.1) (field_bytes (text_field n)) (fields_bytes fs) rest n x ((text_number_codec (length p.texts) few_texts).again n (fields_bytes fs ++ rest) fits.0) (fields_again (next (record { 0 = n })) fs x makes fits.1 rest)
  fields_again (scalar next) (scalar_field n ∷ fs) x makes fits rest =
      then_again (single_kind_from p.symbols) (λ n. fields_from p (next n.0) n.1) (field_bytes (scalar_field n)) (fields_bytes fs) rest n x ((scalar_codec p.symbols few).again n (fields_bytes fs ++ rest) fits.0) (fields_again (next n) fs x makes fits.1 rest)
  fields_again (kind next) (kind_field n ∷ fs) x makes fits rest =
      then_again (kind_from p.symbols) (λ n. fields_from p (next n.0) n.1) (field_bytes (kind_field n)) (fields_bytes fs) rest n x ((kind_codec p.symbols few).again n (fields_bytes fs ++ rest) fits.0) (fields_again (next n) fs x makes fits.1 rest)
  fields_again (symbol tag next) (symbol_field other n ∷ fs) x makes fits rest =
      let there = rw makes.0 at fits.0 in
      then_again (symbol_number_from tag p.symbols) (λ n. fields_from p (next (record { 0 = n.0 })) n.1) (field_bytes (symbol_field other n)) (fields_bytes fs) rest n x ((symbol_number_codec tag p.symbols few).again n (fields_bytes fs ++ rest) there)
      (fields_again (next (record { 0 = n })) fs x makes.1 fits.1 rest)
  fields_again (collection next) (collection_field c k ∷ fs) x makes fits rest =
      then_again (collection_kind_from p.symbols) (λ n. fields_from p (next n.0.0 n.0.1) n.1) (field_bytes (collection_field c k)) (fields_bytes fs) rest (c, k) x ((collection_codec p.symbols few).again (c, k) (fields_bytes fs ++ rest) fits.0)
      (fields_again (next c k) fs x makes fits.1 rest)
  fields_again row fs x makes fits rest = absurd makes

  -- the row of an instruction's opcode makes it of its fields
  abbrev RowMakes : Option Fields → Instr → Type 0
  RowMakes None x = ⊥
  RowMakes (Some row) x = Makes row (row_of x).fields x

  row_makes : (x : Instr) → has_instr p.version x ≡ true → RowMakes (row_numbered (opcodes p.version) (row_of x).opcode) x
  row_makes (instrs.Enum s) known = (refl, refl)
  row_makes (instrs.Attr s) known = (refl, refl)
  row_makes (instrs.All s) known = (refl, refl)
  row_makes (instrs.KindOf s) known = (refl, refl)
  row_makes (instrs.TypeOf s) known = (refl, refl)
  row_makes (instrs.AsType s) known = (refl, refl)
  row_makes (instrs.Fold k n) known = rw known refl
  row_makes x known = refl

  behind_again : (row : Option Fields) (x : Instr) → RowMakes row x → InstrFits (length p.texts) p.symbols x → (here rest : List ℕ) → behind p row here (fields_bytes (row_of x).fields ++ rest) ≡ Ok (x, rest)
  behind_again None x makes fits here rest = absurd makes
  behind_again (Some row) x makes fits here rest = fields_again row (row_of x).fields x makes fits rest

  instr_again : (x : Instr) (rest : List ℕ) → StandsIn p x → instr_from p (instr x ++ rest) ≡ Ok (x, rest)
  unfolding instr_from
  instr_again x rest stands = behind_again (row_numbered (opcodes p.version) (row_of x).opcode) x (row_makes x stands.1) stands.0 (instr x ++ rest) rest

  -- an instruction that fits and is of the version: what is read was spelled so, and what is spelled so is read
  pub instr_codec : IsCodec instr (StandsIn p) (instr_from p)
  instr_codec = record { takes = instr_takes; again = instr_again }
