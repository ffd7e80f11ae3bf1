pub mod Aabb
