-- Questions 25 and 26: each node is lawful, and each variable stands in the body of its function.
use Rattle.std.specs.Prelude.{ℕ, zero, suc, ◌+◌, ◌-◌, Bool, true, false, cond, ◌&&◌, ℤ, pos, negsuc, Some, None, Option, ◌==◌, nat_le, nat_lt}
use Rattle.sheet.specs.declared.decoded.NodeRow.{NodeRow}
use Rattle.sheet.specs.declared.decoded.Kind.{Kind}
use Rattle.sheet.specs.declared.decoded.Kind.TheVariants.{Literal, Variable, Lambda, Application, New, Channel, Read, Write, Choice, Operation, Unknown}
use Rattle.sheet.specs.declared.decoded.Flag.{Flag}
use Rattle.sheet.specs.declared.decoded.Flag.TheVariants as flag
use Rattle.sheet.specs.Sheet.{Sheet, is_fresh, is_channel, parts_of}
use Rattle.sheet.specs.Sets.{set_below}

-- a literal from -2^31 to 2^31 - 1
abbrev pub literal_fits : ℤ → Bool
literal_fits (pos n) = nat_lt n 2147483648
literal_fits (negsuc n) = nat_lt n 2147483648

-- the flag is the one given
abbrev pub has_flag : Flag → Flag → Bool
has_flag flag.Fresh f = is_fresh f
has_flag flag.Channel f = is_channel f
has_flag (flag.Unknown n) flag.Fresh = false
has_flag (flag.Unknown n) flag.Channel = false
has_flag (flag.Unknown n) (flag.Unknown m) = n == m

-- site s exists, and its flag passes the test
abbrev pub site_flagged : Sheet → (Flag → Bool) → ℕ → Bool
site_flagged S test s = nat_lt s S.sites && test (S.site s).flag

-- the node row x has an argument that a node of its kind may have; no argument suits a kind that is not known
abbrev pub lawful_argument : Sheet → NodeRow → Kind → Bool
lawful_argument S x Literal = literal_fits x.literal
lawful_argument S x Variable = nat_lt x.argument S.nodes
lawful_argument S x Lambda = x.argument == 0
lawful_argument S x Application = x.argument == 0
lawful_argument S x New = site_flagged S is_fresh x.argument
lawful_argument S x Channel = site_flagged S is_channel x.argument
lawful_argument S x Read = x.argument == 0
lawful_argument S x Write = x.argument == 0
lawful_argument S x Choice = x.argument == 0
lawful_argument S x Operation = nat_lt x.argument 6
lawful_argument S x Unknown = false

-- where the first of n parts begins, if the last one ends just before node e: a part of no size, or one that begins before node 0, is no part
unfoldable pub parts_begin : Sheet → ℕ → ℕ → Option ℕ
parts_begin S zero e = Some e
parts_begin S (suc n) e =
    cond (nat_lt 0 (S.node (e - 1)).size && nat_le (S.node (e - 1)).size e) (parts_begin S n (e - (S.node (e - 1)).size)) None

-- node i and its parts, which begin at the node given, are as many as the size says
abbrev pub sized : ℕ → ℕ → Option ℕ → Bool
sized i size None = false
sized i size (Some b) = size == i - b + 1

-- 25: node i has an existing type, a control set of 32 labels, a known kind with a lawful argument, all its parts, and the right size
abbrev pub lawful_node : Sheet → ℕ → Bool
lawful_node S i =
    nat_lt (S.node i).ty S.types
    && (set_below 32 (S.node i).control
    && (lawful_argument S (S.node i) (S.node i).kind
    && sized i (S.node i).size (parts_begin S (parts_of (S.node i).kind) i)))

-- the kind is a lambda's
abbrev pub is_lambda : Kind → Bool
is_lambda Literal = false
is_lambda Variable = false
is_lambda Lambda = true
is_lambda Application = false
is_lambda New = false
is_lambda Channel = false
is_lambda Read = false
is_lambda Write = false
is_lambda Choice = false
is_lambda Operation = false
is_lambda Unknown = false

-- node i stands in the body of node f: before f, and among the nodes that f's size counts
abbrev pub in_body : Sheet → ℕ → ℕ → Bool
in_body S i f = nat_lt i f && nat_lt (f - i) (S.node f).size

-- a variable names a lambda and stands in its body; other kinds are not asked
abbrev pub bound_by : Sheet → ℕ → NodeRow → Kind → Bool
bound_by S i x Literal = true
bound_by S i x Variable = is_lambda (S.node x.argument).kind && in_body S i x.argument
bound_by S i x Lambda = true
bound_by S i x Application = true
bound_by S i x New = true
bound_by S i x Channel = true
bound_by S i x Read = true
bound_by S i x Write = true
bound_by S i x Choice = true
bound_by S i x Operation = true
bound_by S i x Unknown = true

-- 26: node i, if it is a variable, stands in the body of the function that it names
abbrev pub bound : Sheet → ℕ → Bool
bound S i = bound_by S i (S.node i) (S.node i).kind
