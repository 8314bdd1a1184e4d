-- The sheet that the rows say. Everything else is stated of this record: the rules, evaluation, the theorems.
use Rattle.std.specs.Prelude.{ℕ, zero, suc, ◌+◌, ◌-◌, ◌<◌, ◌≤◌, Bool, true, false, cond, List, [], ◌∷◌, length, ℤ, pos, negsuc, ◌==◌, nat_lt, slice_index_or}
use Rattle.sheet.specs.declared.row.Row.{Row}
use Rattle.sheet.specs.declared.section.Section.{Section}
use Rattle.sheet.specs.declared.section.Section.TheVariants.{All, Types, Sites, Nodes, Entries}
use Rattle.sheet.specs.declared.decoded.Form.{Form}
use Rattle.sheet.specs.declared.decoded.Form.TheVariants as form
use Rattle.sheet.specs.declared.decoded.Flag.{Flag}
use Rattle.sheet.specs.declared.decoded.Flag.TheVariants as flag
use Rattle.sheet.specs.declared.decoded.Operator.{Operator}
use Rattle.sheet.specs.declared.decoded.Operator.TheVariants as operator
use Rattle.sheet.specs.declared.decoded.Kind.{Kind}
use Rattle.sheet.specs.declared.decoded.Kind.TheVariants as kind
use Rattle.sheet.specs.declared.decoded.TypeRow.{TypeRow}
use Rattle.sheet.specs.declared.decoded.SiteRow.{SiteRow}
use Rattle.sheet.specs.declared.decoded.NodeRow.{NodeRow}
use Rattle.sheet.specs.declared.decoded.EntryRow.{EntryRow}

-- how many rows, types, sites, nodes and entries there are, and what each of them is, by its number from 0 on
pub record Sheet : Type 0 where
  pub rows : ℕ
  pub types : ℕ
  pub sites : ℕ
  pub nodes : ℕ
  pub entries : ℕ
  pub type : ℕ → TypeRow
  pub site : ℕ → SiteRow
  pub node : ℕ → NodeRow
  pub entry : ℕ → EntryRow

-- a number of a row, where one from 0 on is asked for: one below zero reads as 2^63, which is past every limit
unfoldable pub natural : ℤ → ℕ
natural (pos n) = n
natural (negsuc n) = 9223372036854775808

-- the form of a type: 0 number, 1 function, 2 reference
abbrev pub form_of : ℕ → Form
form_of n = cond (n == 0) form.Number (cond (n == 1) form.Function (cond (n == 2) form.Reference form.Unknown))

-- the form is a number's
abbrev pub is_number : Form → Bool
is_number form.Number = true
is_number form.Function = false
is_number form.Reference = false
is_number form.Unknown = false

-- the form is a function's
abbrev pub is_function : Form → Bool
is_function form.Number = false
is_function form.Function = true
is_function form.Reference = false
is_function form.Unknown = false

-- the form is a reference's
abbrev pub is_reference : Form → Bool
is_reference form.Number = false
is_reference form.Function = false
is_reference form.Reference = true
is_reference form.Unknown = false

-- the form is not known
abbrev pub is_unknown : Form → Bool
is_unknown form.Number = false
is_unknown form.Function = false
is_unknown form.Reference = false
is_unknown form.Unknown = true

-- the flag of a site: 0 fresh, 1 channel; any other number is kept, so that no two numbers read as one flag
abbrev pub flag_of : ℕ → Flag
flag_of n = cond (n == 0) flag.Fresh (cond (n == 1) flag.Channel (flag.Unknown n))

-- the site's cells are made by runs
abbrev pub is_fresh : Flag → Bool
is_fresh flag.Fresh = true
is_fresh flag.Channel = false
is_fresh (flag.Unknown n) = false

-- the site is a channel
abbrev pub is_channel : Flag → Bool
is_channel flag.Fresh = false
is_channel flag.Channel = true
is_channel (flag.Unknown n) = false

-- an operation: 0 add, 1 subtract, 2 multiply, 3 divide, 4 less, 5 equal; a number past these reads as the last
abbrev pub operator_of : ℕ → Operator
operator_of n =
    cond (n == 0) operator.Add (cond (n == 1) operator.Subtract (cond (n == 2) operator.Multiply
    (cond (n == 3) operator.Divide (cond (n == 4) operator.Less operator.Equal))))

-- the kind of a node: 0 literal, 1 variable, 2 lambda, 3 application, 4 new, 5 channel, 6 read, 7 write, 8 choice, 9 operation
abbrev pub kind_of : ℕ → Kind
kind_of n =
    cond (n == 0) kind.Literal (cond (n == 1) kind.Variable (cond (n == 2) kind.Lambda (cond (n == 3) kind.Application
    (cond (n == 4) kind.New (cond (n == 5) kind.Channel (cond (n == 6) kind.Read (cond (n == 7) kind.Write
    (cond (n == 8) kind.Choice (cond (n == 9) kind.Operation kind.Unknown)))))))))

-- a type: form, label set; of a function argument type, result type and effect set; of a reference its site set
abbrev pub type_of : Row → TypeRow
type_of r = record { form = form_of (natural r.a); set = natural r.b; argument = natural r.c; result = natural r.d; effect = natural r.e; sites = natural r.c }

-- a site: label, content type, flag; two numbers to spare
abbrev pub site_of : Row → SiteRow
site_of r = record { label = natural r.a; content = natural r.b; flag = flag_of (natural r.c); d = natural r.d; e = natural r.e }

-- a node: kind, size, type, control set, argument, which is a literal's whole number too
abbrev pub node_of : Row → NodeRow
node_of r = record { kind = kind_of (natural r.a); size = natural r.b; ty = natural r.c; control = natural r.d; argument = natural r.e; literal = r.e }

-- an entry: label, root node; three numbers to spare
abbrev pub entry_of : Row → EntryRow
entry_of r = record { label = natural r.a; root = natural r.b; c = natural r.c; d = natural r.d; e = natural r.e }

-- how many rows have the letter l
unfoldable pub count : ℕ → List Row → ℕ
count l [] = 0
count l (r ∷ rs) = cond (r.letter == l) (suc (count l rs)) (count l rs)

-- the row with no letter and zeros, which stands for what there is none of
abbrev pub no_row : Row
no_row = record { letter = 0; a = pos 0; b = pos 0; c = pos 0; d = pos 0; e = pos 0 }

-- thing k of n whose rows begin at row b
abbrev pub row_at : List Row → ℕ → ℕ → ℕ → Row
row_at rs b n k = cond (nat_lt k n) (slice_index_or rs (b + k) no_row) no_row

-- the sheet read off the rows: the rows T, S, N and E, by the codes of these letters, in this order
unfoldable pub view : List Row → Sheet
view rs = record {
  rows = length rs;
  types = count 84 rs;
  sites = count 83 rs;
  nodes = count 78 rs;
  entries = count 69 rs;
  type = λ t. type_of (row_at rs 0 (count 84 rs) t);
  site = λ s. site_of (row_at rs (count 84 rs) (count 83 rs) s);
  node = λ i. node_of (row_at rs (count 84 rs + count 83 rs) (count 78 rs) i);
  entry = λ e. entry_of (row_at rs (count 84 rs + count 83 rs + count 78 rs) (count 69 rs) e);
}

-- the number of the first row of a section
abbrev pub first_row : Sheet → Section → ℕ
first_row S All = 0
first_row S Types = 0
first_row S Sites = S.types
first_row S Nodes = S.types + S.sites
first_row S Entries = S.types + S.sites + S.nodes

-- how many rows a section has
abbrev pub rows_in : Sheet → Section → ℕ
rows_in S All = S.rows
rows_in S Types = S.types
rows_in S Sites = S.sites
rows_in S Nodes = S.nodes
rows_in S Entries = S.entries

-- how many parts a node of this kind has
abbrev pub parts_of : Kind → ℕ
parts_of kind.Literal = 0
parts_of kind.Variable = 0
parts_of kind.Lambda = 1
parts_of kind.Application = 2
parts_of kind.New = 1
parts_of kind.Channel = 0
parts_of kind.Read = 1
parts_of kind.Write = 2
parts_of kind.Choice = 3
parts_of kind.Operation = 2
parts_of kind.Unknown = 0

-- the last part of node i
abbrev pub last_part : ℕ → ℕ
last_part i = i - 1

-- the part before the part p: it ends just before p's first node
abbrev pub part_before : Sheet → ℕ → ℕ
part_before S p = p - (S.node p).size

-- part q of node i, counted from the last, which is part 0
abbrev pub part : Sheet → ℕ → ℕ → ℕ
part S i zero = last_part i
part S i (suc q) = part_before S (part S i q)

-- node j is in the span of node i: it is i, or stands in one of i's parts
abbrev pub InSpan : Sheet → ℕ → ℕ → Type 0
InSpan S i j = (j ≤ i) × (i < j + (S.node i).size)
