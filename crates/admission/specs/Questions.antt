-- Questions 31 to 33, 36 and 37, as tests: of n labels, and a relation that says which label may flow to which.
use Rattle.std.specs.Prelude.{ℕ, Bool, not, ◌&&◌, ◌||◌, nat_lt}
use Rattle.sheet.specs.Asked.{every}
use Rattle.sheet.specs.Sets.{has, set_below}
use Rattle.sheet.specs.Sheet.{Sheet, is_number}
use Rattle.typing.specs.Tests.{node_type, typed, controlled}

-- 31, of type t: the members of its label set and of its effect set are below n
abbrev pub type_labels : ℕ → Sheet → ℕ → Bool
type_labels n S t = set_below n (S.type t).set && set_below n (S.type t).effect

-- 31, of site s: its label is below n
abbrev pub site_label : ℕ → Sheet → ℕ → Bool
site_label n S s = nat_lt (S.site s).label n

-- 31, of node i: the members of its control set are below n
abbrev pub node_labels : ℕ → Sheet → ℕ → Bool
node_labels n S i = set_below n (S.node i).control

-- 31, of entry e: its label is below n
abbrev pub entry_label : ℕ → Sheet → ℕ → Bool
entry_label n S e = nat_lt (S.entry e).label n

-- label a, where it is a member of the set, flows to label b
abbrev pub flows_if : (ℕ → ℕ → Bool) → ℕ → ℕ → ℕ → Bool
flows_if flows set b a = not (has a set) || flows a b

-- every label of the set flows to label b; there are at most 32 labels
abbrev pub all_flow : (ℕ → ℕ → Bool) → ℕ → ℕ → Bool
all_flow flows set b = every (flows_if flows set b) 32

-- 32: the label of site s is in its content's set
abbrev pub site_owned : Sheet → ℕ → Bool
site_owned S s = has (S.site s).label (S.type (S.site s).content).set

-- 33: every label of the content's set of site s flows to the site's label
abbrev pub site_flows : (ℕ → ℕ → Bool) → Sheet → ℕ → Bool
site_flows flows S s = all_flow flows (S.type (S.site s).content).set (S.site s).label

-- 34 and 35: node i keeps its type rule and its control rule
abbrev pub rules_kept : Sheet → ℕ → Bool
rules_kept S i = typed S i && controlled S i

-- 36: the root of entry e gives a number, and the entry's label is in the root's control set
abbrev pub entry_rooted : Sheet → ℕ → Bool
entry_rooted S e = is_number (node_type S (S.entry e).root).form && has (S.entry e).label (S.node (S.entry e).root).control

-- 37: every label of the root's set flows to the label of entry e
abbrev pub entry_flows : (ℕ → ℕ → Bool) → Sheet → ℕ → Bool
entry_flows flows S e = all_flow flows (node_type S (S.entry e).root).set (S.entry e).label
