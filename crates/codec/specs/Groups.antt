-- A whole number in groups of seven bits, the lowest first, one group a byte, the top bit set when another group follows:
-- at most seven groups, the shortest form only.
use Rattle.std.specs.Prelude.{ℕ, zero, suc, ◌+◌, ◌-◌, ◌*◌, ◌/◌, ◌%◌, List, [], ◌∷◌, cond, ltb}
use Rattle.std.specs.declared.result.Result.{Result}
use Rattle.std.specs.declared.result.Result.TheVariants.{Ok, Err}
use Rattle.codec.specs.declared.Number.{Number}
use Rattle.codec.specs.declared.Fault.{Fault}
use Rattle.codec.specs.declared.Fault.TheVariants.{Ended, Long}

-- the bytes of v in at most k groups more than one
unfoldable pub encode_groups : ℕ → ℕ → List ℕ
encode_groups zero v = v ∷ []
encode_groups (suc k) v = cond (ltb v 128) (v ∷ []) ((128 + v % 128) ∷ encode_groups k (v / 128))

unfoldable pub encode : ℕ → List ℕ
unfolding encode_groups
encode v = encode_groups 6 v

-- the number v, which takes this many bytes
abbrev pub value : ℕ → ℕ → Result Number Fault
value v used = Ok (record { value = v; used = used })

-- a group with its top bit set before what follows it
unfoldable pub under : ℕ → Result Number Fault → Result Number Fault
under b (Ok n) = value (b - 128 + 128 * n.value) (n.used + 1)
under b (Err fault) = Err fault

-- a last group, which is at least `least`
unfoldable pub final : ℕ → ℕ → Result Number Fault
final least b = cond (ltb b least) (Err Long) (value b 1)

-- the number at the front of the bytes, when `more` groups may follow its next one
unfoldable pub decode_groups : ℕ → ℕ → List ℕ → Result Number Fault
unfolding under final
decode_groups more least [] = Err Ended
decode_groups zero least (b ∷ bs) = cond (ltb b 128) (final least b) (Err Long)
decode_groups (suc more) least (b ∷ bs) = cond (ltb b 128) (final least b) (under b (decode_groups more 1 bs))

unfoldable pub decode : List ℕ → Result Number Fault
unfolding decode_groups
decode bs = decode_groups 6 0 bs
