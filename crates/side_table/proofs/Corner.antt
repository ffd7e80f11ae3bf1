-- A node's bytes read back whatever numbers its corner has: words of 32 digits keep what the corner's are modulo 2 ^ 32.
use mathlib.Core.Path.{◌≡◌, ap, sym, ◌∙◌}
use mathlib.Core.List.{List, [], ◌∷◌, ◌++◌}
use Prim.Native.Nat.{ℕ, ◌/◌, ◌%◌, ◌^◌, ◌<◌}
use native.Mathlib.Omega.{arith}
use lib.ListN.{length, get_or, replicate}
use Rattle.node.specs.declared.Node.{Node}
use Rattle.node.specs.Bytes.{bytes}
use Rattle.node.specs.Node.{eight, node_from, head_bytes, put_slots, node_bytes}
use Rattle.node.proofs.RoundTrip.{node_of_bytes}

abbrev pub word_corner : Node → Node
word_corner n = record n { px = n.px % 2 ^ 32; py = n.py % 2 ^ 32; pz = n.pz % 2 ^ 32 }

word_bytes : (v : ℕ) → bytes 4 (v % 2 ^ 32) ≡ bytes 4 v
word_bytes v =
    let a : v % 4294967296 % 256 ≡ v % 256 = omega arith in
    let b : v % 4294967296 / 256 % 256 ≡ v / 256 % 256 = omega arith in
    let c : v % 4294967296 / 256 / 256 % 256 ≡ v / 256 / 256 % 256 = omega arith in
    let d : v % 4294967296 / 256 / 256 / 256 % 256 ≡ v / 256 / 256 / 256 % 256 = omega arith in
    rw (a, b, c, d)

same_bytes : (n : Node) → node_bytes (word_corner n) ≡ node_bytes n
unfolding node_bytes head_bytes
same_bytes n =
    let behind : List ℕ = (n.ex ∷ n.ey ∷ n.ez ∷ n.imask ∷ [])
    ++ (bytes 4 n.child_base_idx ++ (bytes 4 n.primitive_base_idx ++ eight (λ i. get_or n.child_meta i 0))) in
    ap (λ (h : List ℕ). put_slots 8 (h ++ replicate 48 0) 0 n.slots)
    (λ i. word_bytes n.px i ++ (word_bytes n.py i ++ (word_bytes n.pz i ++ behind)))

pub corner_back : (n : Node) → n.child_base_idx < 2 ^ 32 → n.primitive_base_idx < 2 ^ 32 → length n.child_meta ≡ 8 → length n.slots ≡ 8
    → node_from (node_bytes n) 0 ≡ word_corner n
corner_back n c p m s =
    ap (λ b. node_from b 0) (sym (same_bytes n))
    ∙ node_of_bytes (word_corner n)
    (record { px = omega arith; py = omega arith; pz = omega arith; child_base = c; primitive_base = p; metas = m; slots = s })
