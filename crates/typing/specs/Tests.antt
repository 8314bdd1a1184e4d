-- Questions 34 and 35: the type rule and the control rule of a node, as tests.
use Rattle.std.specs.Prelude.{ℕ, Bool, true, false, not, ◌&&◌, ◌||◌, bit_or}
use Rattle.sheet.specs.declared.decoded.NodeRow.{NodeRow}
use Rattle.sheet.specs.declared.decoded.TypeRow.{TypeRow}
use Rattle.sheet.specs.declared.decoded.Kind.{Kind}
use Rattle.sheet.specs.declared.decoded.Kind.TheVariants.{Literal, Variable, Lambda, Application, New, Channel, Read, Write, Choice, Operation, Unknown}
use Rattle.sheet.specs.Asked.{every}
use Rattle.sheet.specs.Sets.{has, within}
use Rattle.sheet.specs.Sheet.{Sheet, is_number, is_function, is_reference, is_fresh, is_channel, part}
use Rattle.typing.specs.Fitting.{fit, raised_fit}

-- the type of node i
abbrev pub node_type : Sheet → ℕ → TypeRow
node_type S i = S.type (S.node i).ty

-- an argument of type number a goes to a function of type f at node x: a fits f's argument; f's set and the node's control set
-- lie within f's effect; f's result raised by f's set fits the node's type
abbrev pub applies : Sheet → TypeRow → NodeRow → ℕ → Bool
applies S f x a =
    fit S a f.argument && (within f.set f.effect && (within x.control f.effect && raised_fit S f.result f.set x.ty))

-- site s is among the reference r's, and so a value of type number v, raised by the node x's control set, fits its content
abbrev pub creates : Sheet → TypeRow → NodeRow → ℕ → Bool
creates S r x v = has x.argument r.sites && raised_fit S v x.control (S.site x.argument).content

-- the content of site s, where s is among the reference r's sites, raised by r's set, fits type number y
abbrev pub reads_site : Sheet → TypeRow → ℕ → ℕ → Bool
reads_site S r y s = not (has s r.sites) || raised_fit S (S.site s).content r.set y

-- the same of every site
abbrev pub reads : Sheet → TypeRow → ℕ → Bool
reads S r y = every (reads_site S r y) S.sites

-- type number v, raised by m, fits the content of site s, where s is among the sites of the set given
abbrev pub writes_site : Sheet → ℕ → ℕ → ℕ → ℕ → Bool
writes_site S sites m v s = not (has s sites) || raised_fit S v m (S.site s).content

-- a value of type number v goes through the reference r at node x: raised by r's set and the node's control set it fits the
-- content of each of r's sites, and unraised the node's type
abbrev pub writes : Sheet → TypeRow → NodeRow → ℕ → Bool
writes S r x v = every (writes_site S r.sites (bit_or r.set x.control) v) S.sites && fit S v x.ty

-- branches of types number v and w under a condition of type c at node x: both fit the node's type, and c's set is within its set
abbrev pub chooses : Sheet → TypeRow → NodeRow → ℕ → ℕ → Bool
chooses S c x v w = fit S v x.ty && (fit S w x.ty && within c.set (S.type x.ty).set)

-- operands of types a, a number, and b give the type y: all are numbers, and both sets are within y's
abbrev pub operates : TypeRow → TypeRow → TypeRow → Bool
operates a b y = is_number b.form && (is_number y.form && (within a.set y.set && within b.set y.set))

-- the type rule of node i, whose row is x, by its kind. Parts are counted from the last, which is part 0
abbrev pub typed_by : Sheet → ℕ → NodeRow → Kind → Bool
typed_by S i x Literal = is_number (S.type x.ty).form
typed_by S i x Variable = is_function (node_type S x.argument).form && fit S (node_type S x.argument).argument x.ty
typed_by S i x Lambda = is_function (S.type x.ty).form && fit S (S.node (part S i 0)).ty (S.type x.ty).result
typed_by S i x Application =
    is_function (node_type S (part S i 1)).form && applies S (node_type S (part S i 1)) x (S.node (part S i 0)).ty
typed_by S i x New =
    (is_reference (S.type x.ty).form && is_fresh (S.site x.argument).flag)
    && creates S (S.type x.ty) x (S.node (part S i 0)).ty
typed_by S i x Channel =
    (is_reference (S.type x.ty).form && is_channel (S.site x.argument).flag) && has x.argument (S.type x.ty).sites
typed_by S i x Read = is_reference (node_type S (part S i 0)).form && reads S (node_type S (part S i 0)) x.ty
typed_by S i x Write =
    is_reference (node_type S (part S i 1)).form && writes S (node_type S (part S i 1)) x (S.node (part S i 0)).ty
typed_by S i x Choice =
    is_number (node_type S (part S i 2)).form
    && chooses S (node_type S (part S i 2)) x (S.node (part S i 1)).ty (S.node (part S i 0)).ty
typed_by S i x Operation =
    is_number (node_type S (part S i 1)).form
    && operates (node_type S (part S i 1)) (node_type S (part S i 0)) (S.type x.ty)
typed_by S i x Unknown = false

-- 34: node i keeps its type rule
abbrev pub typed : Sheet → ℕ → Bool
typed S i = typed_by S i (S.node i) (S.node i).kind

-- the control set of node p contains the set c
abbrev pub under : Sheet → ℕ → ℕ → Bool
under S c p = within c (S.node p).control

-- the control sets of the last two parts of node i contain the set c
abbrev pub under_two : Sheet → ℕ → ℕ → Bool
under_two S c i = under S c (part S i 1) && under S c (part S i 0)

-- the control rule of node i, whose row is x, by its kind
abbrev pub controlled_by : Sheet → ℕ → NodeRow → Kind → Bool
controlled_by S i x Literal = true
controlled_by S i x Variable = true
controlled_by S i x Lambda = under S (S.type x.ty).effect (part S i 0)
controlled_by S i x Application = under_two S x.control i
controlled_by S i x New = under S x.control (part S i 0)
controlled_by S i x Channel = true
controlled_by S i x Read = under S x.control (part S i 0)
controlled_by S i x Write = under_two S x.control i
controlled_by S i x Choice =
    under S x.control (part S i 2) && (under_two S x.control i && under_two S (node_type S (part S i 2)).set i)
controlled_by S i x Operation = under_two S x.control i
controlled_by S i x Unknown = false

-- 35: node i keeps its control rule
abbrev pub controlled : Sheet → ℕ → Bool
controlled S i = controlled_by S i (S.node i) (S.node i).kind
