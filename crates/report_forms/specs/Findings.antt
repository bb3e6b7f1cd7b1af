-- A finding: an object for which a rule doesn't hold, with what its readers want to know beside the report's line.
use Rattle.std.specs.Prelude.{ℕ, List, [], ◌∷◌, ◌++◌, ◌==◌, Option, Some, None, slice_index_or, bytes_eq, string_bytes, codes, length, if◌then◌else◌}
use Rattle.std.specs.Fmt.{decimal}
use Rattle.imkl_model.specs.ClassModel.{class_at}
use Rattle.imkl_population.specs.Population.{Population, class_of, object_number}
use Rattle.report_forms.specs.declared.beside.Beside as declared
use Rattle.report_forms.specs.declared.beside.RuleMessage.{RuleMessage}
use Rattle.report_forms.specs.declared.finding.Finding as declared_finding
use Rattle.report_forms.specs.declared.places.EntryPlace.{EntryPlace}
use Rattle.report_forms.specs.ReportRows.{word_at}

-- what is known beside a report: the path of the delivery, its objects, where their entries begin, and the rules' own messages
pub record Context : Type 0 where
  pub path : List ℕ
  pub population : Population
  pub places : List EntryPlace
  pub messages : List RuleMessage

abbrev pub context_of : declared.Beside → Context
context_of b = record { path = b.path.now; population = b.population.now.content; places = b.places.now; messages = b.messages.now }

pub record Finding : Type 0 where
  pub verdict : List ℕ
  pub rule : List ℕ
  pub object : List ℕ
  pub class : List ℕ
  pub place : EntryPlace
  pub message : List ℕ

-- a finding of the code
abbrev pub finding_view : declared_finding.Finding → Finding
finding_view f = record {
  verdict = f.verdict.now;
  rule = f.rule.now;
  object = f.object.now;
  class = f.class.now;
  place = record { offset = f.offset; line = f.line; column = f.column };
  message = f.message.now;
}

-- `fail` or `undecided`, as a verdict
abbrev pub verdict_name : List ℕ → List ℕ
verdict_name word = if bytes_eq word (codes "fail") then codes "fails" else word

-- the message of the first rule of a name; none, where it has none
abbrev pub message_in : List RuleMessage → List ℕ → List ℕ
message_in [] rule = []
message_in (m ∷ ms) rule = if bytes_eq (string_bytes m.rule) rule then string_bytes m.message else message_in ms rule

-- the name of an object's class
abbrev pub class_of_found : Population → Option ℕ → List ℕ
class_of_found p None = []
class_of_found p (Some o) = (class_at p.model (class_of p o)).name

-- where a document begins
abbrev pub first_place : EntryPlace
first_place = record { offset = 0; line = 1; column = 1 }

abbrev pub place_of_found : List EntryPlace → Option ℕ → EntryPlace
place_of_found places None = first_place
place_of_found places (Some o) = slice_index_or places o first_place

-- what the three words of an object's line tell: verdict, rule and object
abbrev pub finding_of : Context → List (List ℕ) → Finding
finding_of c words = record {
  verdict = verdict_name (word_at words 0);
  rule = word_at words 1;
  object = word_at words 2;
  class = class_of_found c.population (object_number c.population (word_at words 2));
  place = place_of_found c.places (object_number c.population (word_at words 2));
  message = message_in c.messages (word_at words 1);
}

-- ---- in words

-- behind a colon, if there is a message
abbrev pub message_part : List ℕ → List ℕ
message_part [] = []
message_part (b ∷ bs) = codes ": " ++ b ∷ bs

-- `fails RULE for OBJECT (CLASS): MESSAGE`
abbrev pub described : Finding → List ℕ
described f = f.verdict ++ (codes " " ++ (f.rule ++ (codes " for " ++ (f.object ++ (codes " (" ++ (f.class ++ (codes ")" ++ message_part f.message)))))))

-- `PATH:LINE:COLUMN: fails RULE for OBJECT (CLASS): MESSAGE`, and the end of the line
abbrev pub placed : List ℕ → Finding → List ℕ
placed path f = path ++ (codes ":" ++ (decimal f.place.line ++ (codes ":" ++ (decimal f.place.column ++ (codes ": " ++ (described f ++ codes "\n"))))))
