-- The hash by which the words of a vocabulary are found. No other definition speaks of it: what a bench holds does not depend on it.
use Rattle.std.specs.Prelude.{ℕ, List, length, if◌then◌else◌, nat_eq, fold, bit_or, bit_xor}
use Rattle.std.specs.Int.{w32, w64, from_le_bytes}
use Rattle.std.specs.Hash as fed
use Rattle.std.specs.Hash.DefaultHasher as sip
use Rattle.std.specs.Hash.FoldHasher.{folded_multiply}
use Rattle.std.specs.RandomState.{initial_hasher}
use Rattle.std.specs.declared.random_state.RandomState.{RandomState}
use Rattle.sbl_last_runs.specs.declared.word_hash.WordHasher.{WordHasher}
use Rattle.sbl_last_runs.specs.declared.word_hash.WordKeys.{WordKeys}

-- SipHash of n under the keys
unfoldable pub number_of : RandomState → ℕ → ℕ
number_of keys n = sip.finish (fold sip.write (initial_hasher keys) (fed.u64 n))

-- the keys of the hash of words; both factors are odd, so that no number is lost in a product
unfoldable pub word_keys : RandomState → WordKeys
word_keys keys = record { start = number_of keys 0; factor = bit_or (number_of keys 1) 1; last_factor = bit_or (number_of keys 2) 1 }

-- keys that are no secret: the first digits of pi after the point, in groups of 64 bits; both factors are made odd
unfoldable pub constant_keys : WordKeys
constant_keys = record { start = 2611923443488327891; factor = 1376283091369227077; last_factor = 11820040416388919761 }

-- the hasher that has taken nothing
unfoldable pub initial : WordKeys → WordHasher
initial keys = record { state = keys.start; factor = keys.factor; last_factor = keys.last_factor }

-- the hasher after one more number
unfoldable pub with_number : WordHasher → ℕ → WordHasher
with_number h n = record { state = folded_multiply (bit_xor h.state n) h.factor; factor = h.factor; last_factor = h.last_factor }

-- the hasher after the bytes of one write: four or eight are one number, the lowest first; of more or fewer each is a number
unfoldable pub write : WordHasher → List ℕ → WordHasher
write h bytes =
    if nat_eq (length bytes) 4 then with_number h (from_le_bytes w32 bytes)
    else (if nat_eq (length bytes) 8 then with_number h (from_le_bytes w64 bytes)
    else fold with_number h bytes)

-- the hash of all that the hasher took
unfoldable pub finish : WordHasher → ℕ
finish h = folded_multiply h.state h.last_factor
