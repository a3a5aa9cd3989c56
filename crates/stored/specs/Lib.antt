-- What the contracts of `stored` cite beside the rules.
pub mod Test
