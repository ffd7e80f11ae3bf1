-- What conversion hands on from node to node writes the layout, and ends at its sizes.
use mathlib.Core.List.{List, [], ◌∷◌, ◌++◌}
use mathlib.Core.Path.{◌≡◌, refl, sym, ap, ap₂, ◌∙◌}
use Prim.Native.Nat.{ℕ, ◌+◌}
use native.Mathlib.Nat.{add_assoc, add-zero, zero-add}
use native.Mathlib.Omega.{arith}
use Rattle.aabb.specs.declared.Aabb.{Aabb}
use Rattle.wide_layout.specs.Wide.{Slots, end, empty, leaf, inner, Wide}
use Rattle.wide_layout.specs.Sizes.{inner_children, nodes_below, own_count, count_below}
use Rattle.wide_layout.specs.Layout.{Entry, entry, entries, layout, nodes, index_count}
use Rattle.wide_layout.specs.Conversion.{State, enter, convert, convert_node, convert_tree, write_all}

module _ {Z : Type 0} (write : Entry → Z → Z) where
  pub write_append : (z : Z) (a b : List Entry) → write_all write z (a ++ b) ≡ write_all write (write_all write z a) b
  write_append z [] b = refl
  write_append z (e ∷ a) b = write_append (write e z) a b

  -- ---- the counts that conversion ends with

  pub convert_nodes : {w : ℕ} (s : Slots w) (l p k i : ℕ) (z : State Z) → (convert write s l p k i z).nodes ≡ z.nodes + nodes_below s
  unfolding convert
  convert_nodes end l p k i z = sym (add-zero z.nodes)
  convert_nodes (empty s) l p k i z = convert_nodes s l p (k + 1) i z
  convert_nodes (leaf b ps s) l p k i z = convert_nodes s l p (k + 1) i z
  convert_nodes (inner b t s) l p k i z =
      let y = enter write b t l p k i z in
      omega (arith, convert_nodes s l p (k + 1) (i + 1) (convert write t (l + 1) i 0 z.nodes y), convert_nodes t (l + 1) i 0 z.nodes y)

  pub convert_positions : {w : ℕ} (s : Slots w) (l p k i : ℕ) (z : State Z) → (convert write s l p k i z).positions ≡ z.positions + count_below s
  unfolding convert
  convert_positions end l p k i z = sym (add-zero z.positions)
  convert_positions (empty s) l p k i z = convert_positions s l p (k + 1) i z
  convert_positions (leaf b ps s) l p k i z = convert_positions s l p (k + 1) i z
  convert_positions (inner b t s) l p k i z =
      let y = enter write b t l p k i z in
      omega (arith, convert_positions s l p (k + 1) (i + 1) (convert write t (l + 1) i 0 z.nodes y), convert_positions t (l + 1) i 0 z.nodes y)

  -- ---- what it writes

  pub convert_written : {w : ℕ} (s : Slots w) (l p k i : ℕ) (z : State Z)
      → (convert write s l p k i z).written ≡ write_all write z.written (entries s l p k i z.nodes z.positions)
  unfolding convert
  convert_written end l p k i z = refl
  convert_written (empty s) l p k i z = convert_written s l p (k + 1) i z
  convert_written (leaf b ps s) l p k i z = convert_written s l p (k + 1) i z
  convert_written (inner b t s) l p k i z =
      let c = z.nodes in
      let q = z.positions in
      let y = enter write b t l p k i z in
      let x = convert write t (l + 1) i 0 c y in
      let m : x.nodes ≡ c + (inner_children t + nodes_below t) = convert_nodes t (l + 1) i 0 c y ∙ add_assoc c (inner_children t) (nodes_below t) in
      let n : x.positions ≡ q + (own_count t + count_below t) = convert_positions t (l + 1) i 0 c y ∙ add_assoc q (own_count t) (count_below t) in
      convert_written s l p (k + 1) (i + 1) x
      ∙ ap₂ (λ (u v : ℕ). write_all write x.written (entries s l p (k + 1) (i + 1) u v)) m n
      ∙ ap (λ (u : Z). write_all write u (entries s l p (k + 1) (i + 1) (c + (inner_children t + nodes_below t)) (q + (own_count t + count_below t))))
      (convert_written t (l + 1) i 0 c y)
      ∙ sym (write_append y.written (entries t (l + 1) i 0 c (c + inner_children t) (q + own_count t))
      (entries s l p (k + 1) (i + 1) (c + (inner_children t + nodes_below t)) (q + (own_count t + count_below t))))

  -- a node with all below it
  pub convert_node_lem : (b : Aabb) (t : Slots 8) (l p k i : ℕ) (z : State Z)
      → convert_node write b t l p k i z
      ≡ record {
        written = write_all write z.written (entry b t l p k i z.nodes z.positions ∷ entries t (l + 1) i 0 z.nodes
            (z.nodes + inner_children t) (z.positions + own_count t));
        nodes = z.nodes + (inner_children t + nodes_below t);
        positions = z.positions + (own_count t + count_below t);
      }
  convert_node_lem b t l p k i z =
      let y = enter write b t l p k i z in
      let e = convert_written t (l + 1) i 0 z.nodes y in
      let m = convert_nodes t (l + 1) i 0 z.nodes y ∙ add_assoc z.nodes (inner_children t) (nodes_below t) in
      let n = convert_positions t (l + 1) i 0 z.nodes y ∙ add_assoc z.positions (own_count t) (count_below t) in
      λ j. record { written = e j; nodes = m j; positions = n j }

  -- the whole tree: conversion as it runs writes the layout's nodes in their order, and ends with their number and that of the positions
  pub converted : (t : Wide) (z : Z) → convert_tree write t z
      ≡ record { written = write_all write z (layout t); nodes = nodes t; positions = index_count t }
  converted t z =
      convert_node_lem t.box t.slots 0 0 0 0 (record { written = z; nodes = 1; positions = 0 })
      ∙ ap (λ (u : ℕ). record { written = write_all write z (layout t); nodes = nodes t; positions = u }) (zero-add (index_count t))
