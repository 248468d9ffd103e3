pub mod Workloads
